use Rattle.std.proofs.Common.{◌≡◌, ◌≤◌, drop, length}
use Rattle.xa_conduct.specs.NotStuck.{are_answers, calls_of}
use Rattle.xa_conduct.proofs.transaction.are_answers.Given as goal

-- what is left to be answered, by the reports that are left
abbrev pub invariant-loop-part : goal.invariant-loop-part
invariant-loop-part l = record {
  within : l.at ≤ length l.reports;
  left : are_answers (calls_of l.parts) l.reports ≡ are_answers (calls_of (drop l.part-index l.parts)) (drop l.at l.reports);
}
