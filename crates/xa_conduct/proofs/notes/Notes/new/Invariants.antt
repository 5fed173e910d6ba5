use Rattle.std.proofs.Common.{Bool}
use Rattle.std.specs.Prelude.{All}
use Rattle.xa_requests.specs.declared.request.Request.{Request}
use Rattle.xa_conduct.specs.AtRest.{IsAtRest}
use Rattle.xa_conduct.specs.Backing.{TransactionRests}
use Rattle.xa_conduct.proofs.notes.Notes.new.Given as goal

-- nothing is noted of any transaction, and each is at rest
abbrev pub invariant-loop-thread : goal.invariant-loop-thread
invariant-loop-thread l = record {
  rests : (asked : (Request → Bool) → Bool) → All (TransactionRests asked) l.transactions.items;
  at_rest : All IsAtRest l.transactions.items;
}
