use Rattle.std.proofs.Common.{◌≡◌, [], take, true}
use Rattle.std.specs.List.{list_any}
use Rattle.xa_base.specs.declared.branch.Gtrid.{Gtrid}
use Rattle.xa_conduct.specs.AtRest.{AreAllDue, DecidesAll}
use Rattle.xa_conduct.specs.Backing.{KeepResting}
use Rattle.xa_conduct.specs.Decided.{AsksNoLess, CommitIsAsked, is_same}
use Rattle.xa_conduct.specs.Progress.{AllStep}
use Rattle.xa_conduct.proofs.notes.Notes.decide.Given as goal

-- what is ready is decided, no step is taken back, and what is noted rests on what was asked for, as it did
abbrev pub invariant-loop-reply : goal.invariant-loop-reply
invariant-loop-reply l = record {
  decides : DecidesAll (take l.reply-index l.replies) l.fn.self.transactions.items l.self.transactions.items;
  all : AreAllDue l.ready.items l.self.transactions.items l.replies;
  decided : (g : Gtrid) → list_any (is_same g) l.ready.items ≡ true → CommitIsAsked l.plan.requests.items g;
  steps : AllStep [] l.fn.self.transactions.items l.self.transactions.items;
  more : AsksNoLess l.fn.plan.requests.items l.plan.requests.items;
  rests : KeepResting l.fn.plan.requests.items l.plan.requests.items l.fn.self.transactions.items l.self.transactions.items;
}
