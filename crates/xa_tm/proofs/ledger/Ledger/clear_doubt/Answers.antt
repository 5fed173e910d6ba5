use Rattle.std.proofs.Common.{◌≡◌, refl, sym, ap}
use Rattle.xa_tm.specs.Book.{Doubt.Records}
use Rattle.xa_tm.specs.LedgerBook.{notes_at, row_at, doubt_of_change}
use Rattle.xa_tm.proofs.History.OneMore.{book_is}
use Rattle.xa_tm.proofs.Log.Restart.{found_notes, found_records, no_row_found}
use Rattle.xa_tm.proofs.ledger.Ledger.clear_doubt.Goals as goal

pub returns-in-AddRecord : goal.returns-in-AddRecord
returns-in-AddRecord c =
    let k = c.args.self.now in
    let b = c.in-AddRecord.b in
    let how = c.in-AddRecord.how in
    let asked : doubt_of_change k.doubt ≡ Records b how = ap doubt_of_change (sym c.in-AddRecord.ensures.value) in
    let n = c.find_record.new.self in
    rw c.find_record.ensures.others (book_is _ _ refl refl refl refl refl refl refl (λ g. refl)
    (found_notes (notes_at k.branches) (notes_at n.branches) b how c.args.is_record_changed c.find_record.ensures.notes)
    c.find_record.ensures.known (λ r. refl)
    (λ g. no_row_found (doubt_of_change k.doubt) b how c.args.is_row_changed g (row_at k.rows g) asked) refl
    (found_records (notes_at k.branches) (notes_at n.branches) b how c.args.is_record_changed c.find_record.ensures.notes (doubt_of_change k.doubt) asked) refl
    (ap doubt_of_change c.replace.ensures.after))
