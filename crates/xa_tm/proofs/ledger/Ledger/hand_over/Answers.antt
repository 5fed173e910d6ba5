use Rattle.std.proofs.Common.{refl}
use Rattle.xa_tm.specs.LedgerBook.{as_book, transaction_at, numbered_by}
use Rattle.xa_tm.proofs.Maps.Transactions.{hand_over_transactions}
use Rattle.xa_tm.proofs.History.OneMore.{book_is}
use Rattle.xa_tm.proofs.ledger.Ledger.hand_over.Goals as goal

pub returns-clause-ok : goal.returns-clause-ok
returns-clause-ok c = λ l b of.
    let k = c.args.self.now in
    book_is _ _ refl refl refl refl refl refl refl
    (hand_over_transactions (as_book k) l b (numbered_by k.is_up k.incarnation k.sequence) (transaction_at k.transactions)
    (transaction_at c.reserve_transaction.new.map) (transaction_at c.set_transaction.new.map) c.args.g c.transaction-transaction.result
    of c.transaction-transaction.ensures c.in_ok-reserve_transaction.ensures.same c.set_transaction.ensures.at)
    (λ b. refl) refl (λ r. refl) (λ g. refl) refl (λ b. refl) refl refl
