-- The rows that a history tells of are those of its book.
use Rattle.std.proofs.Common.{◌≡◌, ◌⊎◌, inl, inr, List, [], ◌∷◌, map, Bool, true, false, refl, sym, ap, subst, ◌∙◌}
use Rattle.std.specs.Prelude.{◌||◌, if◌then◌else◌, is_some, Option, Some, None}
use Rattle.xa_base.specs.Branch.{gtrid_eq}
use Rattle.xa_base.specs.declared.branch.Gtrid.{Gtrid}
use Rattle.xa_log.specs.Content.{Content}
use Rattle.xa_log.specs.KeySet.{from_list}
use Rattle.xa_model.specs.Facts.{Change, Change.AddRecord, Change.AddRows, Change.DropRows, Change.NoChange, doubt, lists_row, log, participants_in}
use Rattle.xa_model.specs.Facts.Distinct.{EachOnce, IsNewTo}
use Rattle.xa_model.specs.Trace.{Row, Trace}
use Rattle.xa_tm.specs.Book.{Waiting, book_of, doubt_of, row_in, waiting_row}
use Rattle.xa_tm.specs.BookAndLog.{HoldsBook, IsChangeOf, MayHold, SameRowsAndRecords, changed_by}
use Rattle.xa_tm.specs.LogRows.{HoldsRows, MayHoldRows, after_change}
use Rattle.xa_tm.proofs.History.OneMore.{lists_is}
use Rattle.xa_tm.proofs.Several.Lists.{once_so}

pub row_in_is : (rows : List Row) (g : Gtrid) → row_in rows g ≡ (if lists_row rows g then Some (from_list (participants_in rows g)) else None)
row_in_is [] g = refl
row_in_is (x ∷ xs) g = by (gtrid_eq x.gtrid g) (row_in_is xs g)
  where
    by : (t : Bool) → row_in xs g ≡ (if lists_row xs g then Some (from_list (participants_in xs g)) else None)
        → (if t then Some (from_list x.participants) else row_in xs g)
        ≡ (if (t || lists_row xs g) then Some (from_list (if t then x.participants else participants_in xs g)) else None)
    by true e = refl
    by false e = e

-- a change that is new to rows is one of the rows that a book says
pub change_of : (rows : List Row) (c : Change) → IsNewTo rows c → IsChangeOf (row_in rows) (doubt_of c)
change_of rows (AddRows xs) new =
    subst (EachOnce (λ g. row_in rows g ≡ None)) (names xs)
    (once_so (λ g. lists_row rows g ≡ false) (λ g. row_in rows g ≡ None) (map (λ (x : Row). x.gtrid) xs)
    (λ g none. unlisted (row_in rows g) (sym (lists_is rows g) ∙ none)) new)
  where
    names : (xs : List Row) → map (λ (x : Row). x.gtrid) xs ≡ map (λ (x : Gtrid × Waiting). x.0) (map waiting_row xs)
    names [] = refl
    names (x ∷ xs) = ap (λ gs. x.gtrid ∷ gs) (names xs)

    unlisted : (o : Option Waiting) → is_some o ≡ false → o ≡ None
    unlisted None e = refl
    unlisted (Some w) e = absurd (cc)
change_of rows (DropRows gs) new =
    once_so (λ g. lists_row rows g ≡ true) (λ g. is_some (row_in rows g) ≡ true) gs (λ g some. sym (lists_is rows g) ∙ some) new
change_of rows (AddRecord x) new = tt
change_of rows NoChange new = tt

pub made_is : (d : Change) (c : Content) → changed_by (doubt_of d) c ≡ after_change d c
made_is (AddRows xs) c = refl
made_is (DropRows gs) c = refl
made_is (AddRecord x) c = refl
made_is NoChange c = refl

pub holds_rows : (tr : Trace) (c : Content) → HoldsBook (book_of tr) c → HoldsRows tr c
holds_rows tr c holds = record {
  rows = λ g. holds.rows g ∙ row_in_is (log tr) g;
  row_number = holds.row_number;
  records = holds.records;
  record_number = holds.record_number;
}

pub may_hold_rows : (tr : Trace) (c : Content) → MayHold (book_of tr) c → MayHoldRows tr c
may_hold_rows tr c holds = (holds.0, holds_rows tr holds.0 holds.1, by holds.2)
  where
    by : SameRowsAndRecords c holds.0 ⊎ (IsChangeOf (book_of tr).row (doubt_of (doubt tr)) × SameRowsAndRecords c (changed_by (doubt_of (doubt tr)) holds.0))
        → SameRowsAndRecords c holds.0 ⊎ SameRowsAndRecords c (after_change (doubt tr) holds.0)
    by (inl same) = inl same
    by (inr made) = inr (subst (SameRowsAndRecords c) (made_is (doubt tr) holds.0) made.1)

-- what the history tells of is what its book says
rows_held : (tr : Trace) (c : Content) → HoldsRows tr c → HoldsBook (book_of tr) c
rows_held tr c holds = record {
  rows = λ g. holds.rows g ∙ sym (row_in_is (log tr) g);
  row_number = holds.row_number;
  records = holds.records;
  record_number = holds.record_number;
}

pub rows_may_hold : (tr : Trace) (c : Content) → IsNewTo (log tr) (doubt tr) → MayHoldRows tr c → MayHold (book_of tr) c
rows_may_hold tr c new holds = (holds.0, rows_held tr holds.0 holds.1, by holds.2)
  where
    by : SameRowsAndRecords c holds.0 ⊎ SameRowsAndRecords c (after_change (doubt tr) holds.0) → SameRowsAndRecords c holds.0
        ⊎ (IsChangeOf (book_of tr).row (doubt_of (doubt tr)) × SameRowsAndRecords c (changed_by (doubt_of (doubt tr)) holds.0))
    by (inl same) = inl same
    by (inr same) =
        inr (change_of (log tr) (doubt tr) new, subst (SameRowsAndRecords c) (sym (made_is (doubt tr) holds.0)) same)
