use Rattle.std.proofs.Common.{◌≡◌, ◌&&◌, filter, not, take}
use Rattle.xa_base.specs.Branch.{gtrid_eq}
use Rattle.xa_story.specs.Rows.{counts_as_done}
use Rattle.xa_story.proofs.ledger.Ledger.waits_for.Given as goal

abbrev pub invariant-loop-branch : goal.invariant-loop-branch
invariant-loop-branch l =
    l.left.items ≡ filter (λ b. gtrid_eq b.gtrid l.gtrid && not (counts_as_done l.self b)) (take l.branch-index l.self.participants.items)
