use Rattle.std.proofs.Common.{refl, ◌∙◌, ap, ◌||◌}
use Rattle.xa_log.specs.KeySet.{insert}
use Rattle.xa_tm.specs.LedgerBook.{as_book, transaction_at, notes_at, numbered_by}
use Rattle.xa_tm.specs.declared.notes.BranchNotes.{BranchNotes}
use Rattle.xa_tm.proofs.Maps.Transactions.{start_transactions, with_equal}
use Rattle.xa_tm.proofs.Maps.Branches.{start_notes, same_records}
use Rattle.xa_tm.proofs.History.OneMore.{book_is}
use Rattle.xa_tm.proofs.ledger.Ledger.start.Goals as goal

pub returns-clause-start : goal.returns-clause-start
returns-clause-start c = λ l.
    let k = c.args.self.now in
    let b = c.args.b in
    let m = c.reserve.new.self in
    let same = c.in_ok-reserve.ensures in
    rw same.others (book_is _ _ refl refl refl refl refl refl refl
    (start_transactions (as_book k) b (numbered_by k.is_up k.incarnation k.sequence) (transaction_at k.transactions) (transaction_at m.transactions)
    (transaction_at c.set_transaction.new.map) c.transaction-transaction.result
    c.has_voted.result c.is_settled-is_settled.result c.transaction-transaction.ensures
    (c.has_voted.ensures ∙ ap (λ (n : BranchNotes). n.said_yes || n.said_read_only) c.branch-notes.ensures) c.is_settled-is_settled.ensures same.transactions
    (with_equal (transaction_at m.transactions)
    (transaction_at c.set_transaction.new.map) b.gtrid c.with_branch.result _ c.with_branch.ensures c.set_transaction.ensures.at))
    (start_notes (notes_at k.branches) (notes_at m.branches)
    (notes_at c.set_branch.new.map) b c.branch-notes.result c.branch-notes.ensures same.branches c.set_branch.ensures.at)
    (c.set_branch.ensures.known ∙ ap (λ s. insert s b) same.known) (λ r. refl) (λ g. refl) refl
    (same_records (notes_at k.branches) (notes_at m.branches) (notes_at c.set_branch.new.map) b _ same.branches c.set_branch.ensures.at
    (ap (λ (n : BranchNotes). n.recorded) c.branch-notes.ensures)) refl refl)

pub returns-clause-join : goal.returns-clause-join
returns-clause-join c = λ l. returns-clause-start c l
