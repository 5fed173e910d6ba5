-- The rows of a right history are counted: one that leaves is one.
use Rattle.std.proofs.Common.{◌≡◌, ◌≤◌, ◌-◌, List, [], ◌∷◌, length, Bool, true, false, ◌||◌, ◌⊎◌, inl, inr, refl, sym, ap, ◌∙◌, subst, arith}
use Rattle.std.specs.Prelude.{if◌then◌else◌, Option, Some, None}
use Rattle.std.proofs.lemmas.Bool.{or_from, or_left, or_parts, or_right, true≢false}
use Rattle.xa_base.specs.declared.answer.Answer.TheVariants.{Ret}
use Rattle.xa_base.specs.declared.branch.Gtrid.{Gtrid}
use Rattle.xa_base.specs.declared.call.Call.TheVariants as Calls
use Rattle.xa_base.specs.declared.code.Code.TheVariants as Codes
use Rattle.xa_base.specs.Branch.{gtrid_eq}
use Rattle.xa_model.specs.Facts.Distinct.{ApartRows, EachOnce, IsNewTo}
use Rattle.xa_model.specs.Facts.{Change.DropRows, Change.AddRecord, Change.NoChange, doubt, has_row, lists_row, log, origin, record_of, record_of_next, without, without_each}
use Rattle.xa_model.specs.Protocol.{IsRun, Right}
use Rattle.xa_model.specs.Trace.{Answer, Call, Happening, Happening.Done, Happening.Restarted, Recorded, Row, Trace, Trace.Then}
use Rattle.xa_model.proofs.AgreementLemmas.Distinct.{doubt_is_new_to, rows_apart, without_apart}
use Rattle.xa_base.proofs.BranchKeys.{gtrid_eq-true}
use Rattle.xa_tm.specs.Book.{doubt_of_happening, book_after, book_of}
use Rattle.xa_tm.specs.BookAndLog.{IsChangeOf}
use Rattle.xa_tm.specs.Laws.{CountsRows}
use Rattle.xa_tm.proofs.History.OneMore.{one_more}
use Rattle.xa_tm.proofs.Several.Lists.{once_among, other_of}
use Rattle.xa_tm.proofs.Log.TellsRows.{change_of}

-- ** lists of rows

later : (s r : Bool) → (s || r) ≡ true → s ≡ false → r ≡ true
later true r e f = absurd (cc)
later false r e f = e

without_none : (g : Gtrid) (xs : List Row) → lists_row xs g ≡ false → without g xs ≡ xs
without_none g [] e = refl
without_none g (x ∷ xs) e =
    let away = or_parts (gtrid_eq x.gtrid g) (lists_row xs g) e in
    ap (λ (t : Bool). if t then without g xs else x ∷ without g xs) away.0 ∙ ap (λ ys. x ∷ ys) (without_none g xs away.1)

some_row : (g : Gtrid) (xs : List Row) → lists_row xs g ≡ true → 1 ≤ length xs
some_row g [] e = absurd (cc)
some_row g (x ∷ xs) e = omega arith

-- of different transactions one row leaves
pub one_row_less : (g : Gtrid) (xs : List Row) → ApartRows xs → lists_row xs g ≡ true → length (without g xs) ≡ length xs - 1
one_row_less g [] apart e = absurd (cc)
one_row_less g (x ∷ xs) apart e = by (gtrid_eq x.gtrid g) refl (λ h. one_row_less g xs apart.1 h)
  where
    by : (t : Bool) → gtrid_eq x.gtrid g ≡ t → (lists_row xs g ≡ true → length (without g xs) ≡ length xs - 1)
        → length (if t then without g xs else x ∷ without g xs) ≡ length (x ∷ xs) - 1
    by true is less =
        let same : length (without g xs) ≡ length xs =
        ap length (without_none g xs (subst (λ y. lists_row xs y ≡ false) (gtrid_eq-true x.gtrid g is) apart.0)) in
        omega (arith, same)
    by false is less =
        let has = later (gtrid_eq x.gtrid g) (lists_row xs g) e is in
        let rest = less has in
        let some = some_row g xs has in
        omega (arith, rest, some)

-- ** changes in doubt

-- an answer makes a record or no change
pub record_or_none : (c : Call) (a : Answer) → ((x : Recorded) × (record_of c a ≡ AddRecord x)) ⊎ (record_of c a ≡ NoChange)
record_or_none (Calls.Commit b false) (Ret (Codes.Heuristic how)) = inl (_, refl)
record_or_none (Calls.Commit b true) (Ret (Codes.Heuristic how)) = inl (_, refl)
record_or_none (Calls.Rollback b) (Ret (Codes.Heuristic how)) = inl (_, refl)
record_or_none _ _ = inr refl

pub next_or_none : (o : Option (Call × Answer)) → ((x : Recorded) × (record_of_next o ≡ AddRecord x)) ⊎ (record_of_next o ≡ NoChange)
next_or_none (Some p) = record_or_none p.0 p.1
next_or_none None = inr refl

pub doubt_of_rows : (tr : Trace) → IsRun tr → IsChangeOf (book_of tr).row (book_of tr).doubt
doubt_of_rows tr r = change_of (log tr) (doubt tr) (doubt_is_new_to tr r)

-- rows whose removal is in doubt are there
pub dropped_are_there : (tr : Trace) (gs : List Gtrid) → IsRun tr → doubt tr ≡ DropRows gs → EachOnce (λ g. has_row tr g ≡ true) gs
dropped_are_there tr gs r e = subst (IsNewTo (log tr)) e (doubt_is_new_to tr r)

-- and so many rows leave
still_unlisted : (g h : Gtrid) (xs : List Row) → lists_row xs h ≡ false → lists_row (without g xs) h ≡ false
still_unlisted g h [] e = refl
still_unlisted g h (x ∷ xs) e =
    let parts = or_parts (gtrid_eq x.gtrid h) (lists_row xs h) e in by (gtrid_eq x.gtrid g) parts.0 (still_unlisted g h xs parts.1)
  where
    by : (t : Bool) → gtrid_eq x.gtrid h ≡ false → lists_row (without g xs) h ≡ false → lists_row (if t then without g xs else x ∷ without g xs) h ≡ false
    by true away rest = rest
    by false away rest = or_from _ _ away rest

still_listed : (g h : Gtrid) (xs : List Row) → gtrid_eq g h ≡ false → lists_row xs h ≡ true → lists_row (without g xs) h ≡ true
still_listed g h [] other e = absurd (cc)
still_listed g h (x ∷ xs) other e = by (gtrid_eq x.gtrid g) (gtrid_eq x.gtrid h) refl refl e (still_listed g h xs other)
  where
    by : (s t : Bool) → gtrid_eq x.gtrid g ≡ s → gtrid_eq x.gtrid h ≡ t → (t || lists_row xs h) ≡ true
        → (lists_row xs h ≡ true → lists_row (without g xs) h ≡ true) → lists_row (if s then without g xs else x ∷ without g xs) h ≡ true
    by true true same here e rest =
        absurd (true≢false (sym (subst (λ y. gtrid_eq y h ≡ true) (gtrid_eq-true x.gtrid g same) here) ∙ other))
    by true false same away e rest = rest e
    by false true apart here e rest = or_left _ _ here
    by false false apart away e rest = or_right _ _ (rest e)

pub each_row_less : (gs : List Gtrid) (xs : List Row) → ApartRows xs → EachOnce (λ g. lists_row xs g ≡ true) gs
    → length (without_each gs xs) ≡ length xs - length gs
each_row_less [] xs apart there = omega arith
each_row_less (g ∷ gs) xs apart there =
    let one = one_row_less g xs apart there.0 in
    let rest = each_row_less gs (without g xs) (without_apart g xs apart)
    (once_among (λ h. lists_row xs h ≡ true) (λ h. lists_row (without g xs) h ≡ true) gs
    (λ h is has. still_listed g h xs (other_of gs g h there.1 is) has) there.2) in
    omega (arith, one, rest)

pub drops_counted : (tr : Trace) (gs : List Gtrid) → IsRun tr → ApartRows (origin tr).rows → doubt tr ≡ DropRows gs
    → length (without_each gs (log tr)) ≡ length (log tr) - length gs
drops_counted tr gs r apart e = each_row_less gs (log tr) (rows_apart tr r apart) (dropped_are_there tr gs r e)

-- ** the book

pub counts_rows : (tr : Trace) (e : Happening) → IsRun tr → Right tr e → ApartRows (origin tr).rows → CountsRows tr e
counts_rows tr (Done h) a r apart = one_row_less h (log tr) (rows_apart tr a apart) r.has
counts_rows tr (Restarted i d h) a r apart = (r.2, r.3)
counts_rows tr _ a r apart = tt

pub right_book : (tr : Trace) (e : Happening) → IsRun tr → Right tr e → ApartRows (origin tr).rows
    → book_of (Then tr e) ≡ book_after (book_of tr) (doubt_of_happening tr e) e
right_book tr e a r apart = one_more tr e (counts_rows tr e a r apart)
