use Rattle.std.proofs.Common.{◌≡◌, ◌+◌, ◌++◌, drop}
use Rattle.xa_jobs.specs.Lines.{end_lines, lines_from}
use Rattle.xa_jobs.proofs.lines.end_lines.Given as goal

abbrev pub invariant-loop-i : goal.invariant-loop-i
invariant-loop-i l = l.lines.items ++ lines_from (l.i + 1) (drop l.i l.ends) ≡ end_lines l.ends
