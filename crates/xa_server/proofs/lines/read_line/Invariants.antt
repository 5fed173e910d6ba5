use Rattle.xa_server.proofs.LineLemmas.{ReadsPart}
use Rattle.xa_server.proofs.lines.read_line.Given as goal

abbrev pub invariant-loop : goal.invariant-loop
invariant-loop g l = ReadsPart (g.R.Read.remaining l.fn.input) (g.R.Read.remaining l.input) l.bytes.items
