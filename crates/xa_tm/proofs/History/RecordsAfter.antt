-- The records of a book after one event more.
use Rattle.std.proofs.Common.{◌≡◌, ◌+◌, ◌==◌, List, [], ◌∷◌, length, Bool, true, false, ◌||◌, Option, Some, None, is_some, add-one, refl, sym, ap, ◌∙◌}
use Rattle.std.specs.Prelude.{if◌then◌else◌}
use Rattle.xa_base.specs.Branch.{branch_eq}
use Rattle.xa_base.specs.declared.branch.Branch.{Branch}
use Rattle.xa_base.specs.declared.code.How.{How}
use Rattle.xa_model.specs.Facts.{heuristic_rows, how_in, has_record, heuristics_changed, recorded_as, record_of, doubt, Change, Change.AddRows, Change.DropRows, Change.AddRecord, Change.NoChange}
use Rattle.xa_model.specs.Trace.{Happening, Happening.Heard, Happening.Restarted, Recorded, Trace, Trace.Then}
use Rattle.xa_base.proofs.BranchKeys.{branch_eq-true}
use Rattle.xa_tm.specs.Book.{Doubt.Records, Book, doubt_of, book_of, recorded_with, recorded_after, records_with}

pub has_record_is : (xs : List Recorded) (b : Branch) → has_record xs b ≡ is_some (how_in xs b)
has_record_is [] b = refl
has_record_is (x ∷ xs) b = by (branch_eq x.branch b) (has_record_is xs b)
  where
    by : (t : Bool) → has_record xs b ≡ is_some (how_in xs b) → (t || has_record xs b) ≡ is_some (if t then Some x.how else how_in xs b)
    by true rest = refl
    by false rest = rest

how_with : (x : Recorded) (xs : List Recorded) (b : Branch) (t : Bool) → has_record xs x.branch ≡ t
    → how_in (if t then xs else x ∷ xs) b ≡ recorded_with (Records x.branch x.how) b (how_in xs b)
how_with x xs b true e = by (how_in xs b) refl
  where
    no : (o : Option How) → o ≡ None → is_some o ≡ true → (h : Option How) → None ≡ h
    no None p q h = absurd (cc)
    no (Some w) p q h = absurd (cc)

    here : (t : Bool) → branch_eq x.branch b ≡ t → how_in xs b ≡ None → None ≡ (if t then Some x.how else None)
    here true s none = no (how_in xs x.branch) (ap (how_in xs) (branch_eq-true x.branch b s) ∙ none) (sym (has_record_is xs x.branch) ∙ e) (Some x.how)
    here false s none = refl

    by : (o : Option How) → how_in xs b ≡ o → o ≡ recorded_with (Records x.branch x.how) b o
    by None none = here (branch_eq x.branch b) refl none
    by (Some h) some = refl
how_with x xs b false e = by (how_in xs b) (branch_eq x.branch b) refl refl
  where
    no : (o : Option How) (h w : How) → o ≡ Some h → is_some o ≡ false → Some w ≡ Some h
    no None h w p q = absurd (cc)
    no (Some v) h w p q = absurd (cc)

    by : (o : Option How) (t : Bool) → how_in xs b ≡ o → branch_eq x.branch b ≡ t → (if t then Some x.how else o) ≡ recorded_with (Records x.branch x.how) b o
    by None t none is = ap (λ (u : Bool). if u then Some x.how else None) (sym is)
    by (Some h) true some is = no (how_in xs x.branch) h x.how (ap (how_in xs) (branch_eq-true x.branch b is) ∙ some) (sym (has_record_is xs x.branch) ∙ e)
    by (Some h) false some is = refl

-- the record after a change
pub how_changed : (c : Change) (xs : List Recorded) (b : Branch) → how_in (heuristics_changed c xs) b ≡ recorded_with (doubt_of c) b (how_in xs b)
how_changed (AddRecord x) xs b = how_with x xs b _ refl
how_changed (AddRows ys) xs b = refl
how_changed (DropRows hs) xs b = refl
how_changed NoChange xs b = refl

pub recorded_more : (tr : Trace) (e : Happening) (b : Branch) → recorded_as (Then tr e) b ≡ recorded_after (book_of tr) e b (recorded_as tr b)
recorded_more tr (Heard l c a) b = how_changed (record_of c a) (heuristic_rows tr) b
recorded_more tr (Restarted i d h) b = by (h == length (heuristic_rows tr))
  where
    by : (t : Bool) → how_in (if t then heuristic_rows tr else heuristics_changed (doubt tr) (heuristic_rows tr)) b
        ≡ (if t then recorded_as tr b else recorded_with (doubt_of (doubt tr)) b (recorded_as tr b))
    by true = refl
    by false = how_changed (doubt tr) (heuristic_rows tr) b
recorded_more tr _ b = refl

pub records_changed : (k : Book) (c : Change) (xs : List Recorded) → ((b : Branch) → k.recorded b ≡ how_in xs b)
    → length (heuristics_changed c xs) ≡ records_with k (doubt_of c) (length xs)
records_changed k (AddRecord x) xs is = by (has_record xs x.branch) refl
  where
    by : (t : Bool) → has_record xs x.branch ≡ t → length (if t then xs else x ∷ xs) ≡ (if is_some (k.recorded x.branch) then length xs else length xs + 1)
    by true e = sym (ap (λ (u : Bool). if u then length xs else length xs + 1) (ap is_some (is x.branch) ∙ sym (has_record_is xs x.branch) ∙ e))
    by false e =
        sym (ap (λ (u : Bool). if u then length xs else length xs + 1) (ap is_some (is x.branch) ∙ sym (has_record_is xs x.branch) ∙ e) ∙ add-one (length xs))
records_changed k (AddRows ys) xs is = refl
records_changed k (DropRows hs) xs is = refl
records_changed k NoChange xs is = refl
