use Rattle.std.proofs.Common.{◌≤◌, length, take}
use Rattle.xa_conduct.specs.AtRest.{AreAllDue}
use Rattle.xa_conduct.proofs.notes.outcomes.ready_of.Given as goal

-- no more are ready than were looked at, and all of these that are due
abbrev pub invariant-loop-reply : goal.invariant-loop-reply
invariant-loop-reply l = record {
  few : length l.ready.items ≤ l.reply-index;
  all : AreAllDue l.ready.items l.transactions (take l.reply-index l.replies);
}
