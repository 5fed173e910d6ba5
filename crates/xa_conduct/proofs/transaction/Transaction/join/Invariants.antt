use Rattle.std.proofs.Common.{◌≡◌, true}
use Rattle.std.specs.List.{list_all}
use Rattle.xa_conduct.proofs.ProgressLemmas.{Joined}
use Rattle.xa_conduct.specs.Backing.{KeepsResting}
use Rattle.xa_conduct.specs.Decided.{AsksNoLess}
use Rattle.xa_conduct.specs.Progress.{is_new_at}
use Rattle.xa_conduct.proofs.transaction.Transaction.join.Given as goal

-- the first joins, and others may, by a move of this line; what is noted rests on what was asked for, as it did, and what was asked for still is
abbrev pub invariant-loop-rm : goal.invariant-loop-rm
invariant-loop-rm l = record {
  moved : l.self.has_moved ≡ true;
  steps : list_all (is_new_at l.fn.self.parts.items) l.rms ≡ true → Joined l.rm-index l.fn.self l.self;
  more : AsksNoLess l.fn.plan.requests.items l.plan.requests.items;
  rests : KeepsResting l.fn.plan.requests.items l.plan.requests.items l.fn.self l.self;
}
