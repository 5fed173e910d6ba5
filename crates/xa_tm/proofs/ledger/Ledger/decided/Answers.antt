use Rattle.std.proofs.Common.{refl}
use Rattle.xa_tm.specs.LedgerBook.{as_book, transaction_at, numbered_by}
use Rattle.xa_tm.proofs.Maps.Transactions.{decide_transactions}
use Rattle.xa_tm.proofs.History.OneMore.{book_is}
use Rattle.xa_tm.proofs.ledger.Ledger.decided.Goals as goal

pub returns-clause-transactions : goal.returns-clause-transactions
returns-clause-transactions c =
    let k = c.args.self.now in
    book_is _ _ refl refl refl refl refl refl refl
    (decide_transactions (as_book k) (numbered_by k.is_up k.incarnation k.sequence) (transaction_at k.transactions)
    (transaction_at c.set_transaction.new.map) c.args.g c.args.outcome c.transaction-transaction.result c.decided.result
    c.transaction-transaction.ensures c.requires.undecided c.decided.ensures c.set_transaction.ensures.at)
    (λ b. refl) refl (λ r. refl) (λ g. refl) refl (λ b. refl) refl refl
