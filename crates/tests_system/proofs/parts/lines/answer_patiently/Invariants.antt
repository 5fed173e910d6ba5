use Rattle.xa_line.specs.Ends.{SameTaker}
use Rattle.tests_system.proofs.parts.lines.answer_patiently.Given as goal

abbrev pub invariant-loop : goal.invariant-loop
invariant-loop l = SameTaker l.initial.taker l.taker
