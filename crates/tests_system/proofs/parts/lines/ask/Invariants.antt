use Rattle.xa_line.specs.Ends.{SameIssuer}
use Rattle.tests_system.proofs.parts.lines.ask.Given as goal

abbrev pub invariant-loop-number : goal.invariant-loop-number
invariant-loop-number l = SameIssuer l.initial.issuer l.issuer
