use Rattle.std.proofs.Common.{◌≡◌, take}
use Rattle.xa_conduct.specs.Decided.{AsksNoLess}
use Rattle.xa_conduct.specs.Moves.{ArePairedInOrder}
use Rattle.xa_conduct.specs.Told.{HasNext}
use Rattle.xa_conduct.proofs.notes.Notes.begin_next.Given as goal

-- no transaction has moved yet, and what was asked for still is
abbrev pub invariant-loop-reply : goal.invariant-loop-reply
invariant-loop-reply l = record {
  more : AsksNoLess l.fn.plan.requests.items l.plan.requests.items;
  names : ArePairedInOrder (HasNext l.fn.self.transactions.items) (take l.reply-index l.replies) l.nexts.items;
  same : l.self.transactions ≡ l.fn.self.transactions;
}
