use Rattle.std.proofs.Common.{refl, ap, ◌∙◌}
use Rattle.xa_tm.specs.LedgerBook.{notes_of, numbered_by, transaction_notes_of}
use Rattle.xa_tm.specs.declared.notes.BranchNotes.{BranchNotes}
use Rattle.xa_tm.proofs.History.OneMore.{book_is}
use Rattle.xa_tm.proofs.Maps.Removals.{no_longer_noted, no_longer_said, still_recorded}
use Rattle.xa_tm.proofs.ledger.Ledger.release.Goals as goal

pub returns-clause-book : goal.returns-clause-book
returns-clause-book c =
    let k = c.args.self.now in
    let g = c.args.g in
    let left = c.release_branches.ensures in
    rw left.others (book_is _ _ refl refl refl refl refl refl refl
    (λ q. ap (transaction_notes_of (numbered_by k.is_up k.incarnation k.sequence q)) (c.remove_transaction.ensures.at q)
    ∙ no_longer_noted g (numbered_by k.is_up k.incarnation k.sequence q) q _)
    (λ b. ap notes_of (left.notes b) ∙ no_longer_said g b _) left.known (λ r. refl) c.remove_row_room.ensures.same refl
    (λ b. ap (λ (n : BranchNotes). n.recorded) (left.notes b) ∙ still_recorded g b _ (c.requires.branches.unrecorded b)) refl refl)

pub returns-clause-forgotten : goal.returns-clause-forgotten
returns-clause-forgotten c =
    let left = c.release_branches.ensures in
    rw left.others (record { transaction = c.remove_transaction.ensures.gone; row = c.remove_row_room.ensures.gone; branches = left.gone })
