use Rattle.std.proofs.Common.{◌≤◌}
use Rattle.xa_conduct.specs.Backing.{KeepAllBacked}
use Rattle.xa_conduct.specs.Decided.{AsksNoLess}
use Rattle.xa_conduct.specs.Progress.{branch_steps}
use Rattle.xa_conduct.proofs.transaction.undo_each.Given as goal

-- the branches are backed as they were, have taken no step back, and what was asked for still is
abbrev pub invariant-loop-part : goal.invariant-loop-part
invariant-loop-part l = record {
  steps : branch_steps l.fn.parts ≤ branch_steps l.part-items;
  more : AsksNoLess l.fn.plan.requests.items l.plan.requests.items;
  backed : KeepAllBacked l.fn.plan.requests.items l.plan.requests.items l.gtrid l.thread l.fn.parts l.part-items;
}
