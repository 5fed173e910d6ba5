use Rattle.xa_line.specs.Ends.{SameIssuer}
use Rattle.tests_system.proofs.parts.lines.issue_patiently.Given as goal

abbrev pub invariant-loop : goal.invariant-loop
invariant-loop l = SameIssuer l.initial.issuer l.issuer
