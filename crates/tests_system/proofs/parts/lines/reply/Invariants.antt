use Rattle.xa_line.specs.Ends.{SameTaker}
use Rattle.tests_system.proofs.parts.lines.reply.Given as goal

abbrev pub invariant-loop-number : goal.invariant-loop-number
invariant-loop-number l = SameTaker l.initial.taker l.taker
