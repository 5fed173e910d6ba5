use Rattle.std.proofs.Common.{◌≡◌, length, take}
use Rattle.xa_conduct.specs.AtRest.{MovesTheirs}
use Rattle.xa_conduct.specs.Backing.{KeepResting}
use Rattle.xa_conduct.specs.Decided.{AsksNoLess}
use Rattle.xa_conduct.specs.Moves.{AreMovedOnce, ArePairedInOrder, IsReplyOf}
use Rattle.xa_conduct.specs.Progress.{AllStep}
use Rattle.xa_conduct.proofs.notes.Notes.take_all.Given as goal

-- so many moves were taken, each by a step, and what is noted rests on what was asked for, as it did
abbrev pub invariant-loop-asked : goal.invariant-loop-asked
invariant-loop-asked l = record {
  count : length l.replies.items ≡ l.asked-index;
  threads : ArePairedInOrder IsReplyOf (take l.asked-index l.moves) l.replies.items;
  once : AreMovedOnce l.replies.items;
  moves : MovesTheirs l.replies.items l.fn.self.transactions.items l.self.transactions.items;
  steps : AllStep l.replies.items l.fn.self.transactions.items l.self.transactions.items;
  more : AsksNoLess l.fn.plan.requests.items l.plan.requests.items;
  rests : KeepResting l.fn.plan.requests.items l.plan.requests.items l.fn.self.transactions.items l.self.transactions.items;
}
