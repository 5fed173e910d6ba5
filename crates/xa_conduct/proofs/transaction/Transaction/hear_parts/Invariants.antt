use Rattle.std.proofs.Common.{◌≡◌}
use Rattle.xa_conduct.proofs.ProgressLemmas.{HeardSoFar}
use Rattle.xa_conduct.specs.Backing.{KeepsResting}
use Rattle.xa_conduct.specs.Decided.{AsksNoLess}
use Rattle.xa_conduct.proofs.transaction.Transaction.hear_parts.Given as goal

-- one was heard, or none was told a call so far; what is noted rests on what was asked for, as it did, and what was asked for still is
abbrev pub invariant-loop-at : goal.invariant-loop-at
invariant-loop-at l = record {
  moved : l.self.has_moved ≡ l.fn.self.has_moved;
  steps : HeardSoFar l.at l.fn.self l.self l.fn.reports l.reports.rest.now;
  more : AsksNoLess l.fn.plan.requests.items l.plan.requests.items;
  rests : KeepsResting l.fn.plan.requests.items l.plan.requests.items l.fn.self l.self;
}
