use Rattle.std.proofs.Common.{List, subst, sym}
use Rattle.std.proofs.lemmas.List.Elements.{All-push}
use Rattle.std.specs.Prelude.{All}
use Rattle.xa_conduct.proofs.BackingLemmas.{rest_pushed}
use Rattle.xa_conduct.specs.AtRest.{IsAtRest}
use Rattle.xa_conduct.specs.declared.transaction.Transaction.{Transaction}
use Rattle.xa_conduct.proofs.notes.Notes.new.Goals as goal

pub loop-thread-preserved : goal.loop-thread-preserved
loop-thread-preserved c = record {
  rests =
      λ asked.
      rest_pushed asked c.loop-thread.transactions.items c.push.new.self.items c.in_ok-transaction.transaction c.in_ok-push.ensures.items
      (c.in_ok-transaction.ensures.rests asked) (c.loop-thread.invariant.rests asked);
  at_rest =
      subst (λ (ts : List Transaction). All IsAtRest ts) (sym c.in_ok-push.ensures.items)
      (All-push IsAtRest c.loop-thread.transactions.items c.in_ok-transaction.transaction c.loop-thread.invariant.at_rest c.in_ok-transaction.ensures.at_rest);
}
