use Rattle.std.proofs.Common.{refl, ap, ◌∙◌}
use Rattle.xa_tm.specs.LedgerBook.{numbered_by, as_book, transaction_at}
use Rattle.xa_tm.specs.Resolving.{is_one_of}
use Rattle.xa_tm.proofs.History.OneMore.{book_is}
use Rattle.xa_tm.proofs.Maps.ResolveOpen.{open_transactions}
use Rattle.xa_tm.proofs.ledger.Ledger.resolve_open.Goals as goal

pub returns-clause-ok : goal.returns-clause-ok
returns-clause-ok c =
    let k = c.args.self.now in
    book_is _ _ refl refl refl refl refl refl refl
    (open_transactions (as_book k) c.args.rm (numbered_by k.is_up k.incarnation k.sequence) (transaction_at k.transactions)
    (transaction_at c.reserve_all.new.map) (transaction_at c.roll_back_all.new.map)
    c.as_slice-2.result.now (λ q. refl) c.in_ok-reserve_all.ensures.same c.roll_back_all.ensures
    (λ q. ap (λ xs. is_one_of xs q) c.as_slice-2.ensures.value ∙ c.in_ok-gtrids.ensures q))
    (λ b. refl) refl (λ r. refl) (λ g. refl) refl (λ b. refl) refl refl
