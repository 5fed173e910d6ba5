use Rattle.xa_files.specs.Outputs.{IsWrittenBut}
use Rattle.xa_files.proofs.output.write_unflushed.Given as goal

abbrev pub invariant-loop : goal.invariant-loop
invariant-loop g l = IsWrittenBut l.rest l.text (g.W.Write.contents l.fn.out) (g.W.Write.contents l.out)
