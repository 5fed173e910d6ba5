-- One happening more in the heuristic rows.
use Rattle.std.proofs.Common.{◌≡◌, List, [], ◌∷◌, Bool, true, false, ◌||◌, refl, ap, ◌∙◌, ◌⊎◌}
use Rattle.std.specs.Prelude.{if◌then◌else◌, Some}
use mathlib.Core.Logic.{◌⊎◌.inl, ◌⊎◌.inr}
use Rattle.xa_base.specs.Branch.{branch_eq}
use Rattle.xa_model.specs.Trace.{Branch, Line, Call, How, Answer, Recorded, Happening, Happening.Heard, Happening.Restarted, Trace, Trace.Then}
use Rattle.xa_model.specs.Facts.{recorded, recorded_as, heuristic_rows, doubt, how_in, has_record, record_of, heuristics_changed, Change, Change.AddRows, Change.DropRows, Change.AddRecord, Change.NoChange}
use Rattle.xa_base.proofs.BranchKeys.{branch_eq-true}
use Rattle.xa_model.proofs.Invariant.Grows.{both}

-- ** lists of records

-- a branch that is recorded is so as something
pub how_of : (xs : List Recorded) (b : Branch) → has_record xs b ≡ true → (how : How) × (how_in xs b ≡ Some how)
how_of [] b e = absurd (cc)
how_of (x ∷ xs) b e = by_test (branch_eq x.branch b) e (how_of xs b)
  where
    by_test : (t : Bool) → (t || has_record xs b) ≡ true → (has_record xs b ≡ true → (how : How) × (how_in xs b ≡ Some how))
        → (how : How) × ((if t then Some x.how else how_in xs b) ≡ Some how)
    by_test true e f = (x.how, refl)
    by_test false e f = f e

pub has_of : (xs : List Recorded) (b : Branch) (how : How) → how_in xs b ≡ Some how → has_record xs b ≡ true
has_of [] b how e = cc
has_of (x ∷ xs) b how e = by_test (branch_eq x.branch b) e (has_of xs b how)
  where
    by_test : (t : Bool) → (if t then Some x.how else how_in xs b) ≡ Some how → (how_in xs b ≡ Some how → has_record xs b ≡ true)
        → (t || has_record xs b) ≡ true
    by_test true e f = refl
    by_test false e f = f e

-- one record more leaves those of before, also of its own branch
with_keeps : (x : Recorded) (b : Branch) (how : How) (t : Bool) (xs : List Recorded) → has_record xs x.branch ≡ t
    → how_in xs b ≡ Some how → how_in (if t then xs else x ∷ xs) b ≡ Some how
with_keeps x b how true xs q e = e
with_keeps x b how false xs q e = by_test (branch_eq x.branch b) refl
  where
    by_test : (t : Bool) → branch_eq x.branch b ≡ t → (if t then Some x.how else how_in xs b) ≡ Some how
    by_test true s = absurd (both (has_record xs x.branch) (ap (has_record xs) (branch_eq-true x.branch b s) ∙ has_of xs b how e) q)
    by_test false s = e

same_record : (x : Recorded) (b : Branch) (how : How) → x.branch ≡ b → x.how ≡ how → x ≡ record { branch = b; how = how }
same_record x b how p q = λ i. record { branch = p i; how = q i }

with_adds : (x : Recorded) (b : Branch) (how : How) (t : Bool) (xs : List Recorded)
    → how_in (if t then xs else x ∷ xs) b ≡ Some how → (how_in xs b ≡ Some how) ⊎ (x ≡ record { branch = b; how = how })
with_adds x b how true xs e = inl e
with_adds x b how false xs e = by_test (branch_eq x.branch b) refl e
  where
    by_test : (t : Bool) → branch_eq x.branch b ≡ t → (if t then Some x.how else how_in xs b) ≡ Some how
        → (how_in xs b ≡ Some how) ⊎ (x ≡ record { branch = b; how = how })
    by_test true s e = inr (same_record x b how (branch_eq-true x.branch b s) (cc))
    by_test false s e = inl e

-- ** changes

changed_keeps : (c : Change) (b : Branch) (how : How) (xs : List Recorded) → how_in xs b ≡ Some how → how_in (heuristics_changed c xs) b ≡ Some how
changed_keeps (AddRecord x) b how xs e = with_keeps x b how _ xs refl e
changed_keeps (AddRows rows) b how xs e = e
changed_keeps (DropRows gs) b how xs e = e
changed_keeps NoChange b how xs e = e

changed_adds : (c : Change) (b : Branch) (how : How) (xs : List Recorded) → how_in (heuristics_changed c xs) b ≡ Some how
    → (how_in xs b ≡ Some how) ⊎ (c ≡ AddRecord (record { branch = b; how = how }))
changed_adds (AddRecord x) b how xs e = by_place (with_adds x b how _ xs e)
  where
    by_place : (how_in xs b ≡ Some how) ⊎ (x ≡ record { branch = b; how = how })
        → (how_in xs b ≡ Some how) ⊎ (AddRecord x ≡ AddRecord (record { branch = b; how = how }))
    by_place (inl s) = inl s
    by_place (inr s) = inr (ap (λ y. AddRecord y) s)
changed_adds (AddRows rows) b how xs e = inl e
changed_adds (DropRows gs) b how xs e = inl e
changed_adds NoChange b how xs e = inl e

restarted_keeps : (t : Bool) (c : Change) (b : Branch) (how : How) (xs : List Recorded) → how_in xs b ≡ Some how
    → how_in (if t then xs else heuristics_changed c xs) b ≡ Some how
restarted_keeps true c b how xs e = e
restarted_keeps false c b how xs e = changed_keeps c b how xs e

restarted_adds : (t : Bool) (c : Change) (b : Branch) (how : How) (xs : List Recorded)
    → how_in (if t then xs else heuristics_changed c xs) b ≡ Some how → (how_in xs b ≡ Some how) ⊎ (c ≡ AddRecord (record { branch = b; how = how }))
restarted_adds true c b how xs e = inl e
restarted_adds false c b how xs e = changed_adds c b how xs e

-- ** the record

pub recorded_as_kept : (tr : Trace) (e : Happening) (b : Branch) (how : How) → recorded_as tr b ≡ Some how → recorded_as (Then tr e) b ≡ Some how
recorded_as_kept tr (Heard l c a) b how r = changed_keeps (record_of c a) b how (heuristic_rows tr) r
recorded_as_kept tr (Restarted i d n) b how r = restarted_keeps _ (doubt tr) b how (heuristic_rows tr) r
recorded_as_kept tr _ b how r = r

pub recorded_how : (tr : Trace) (b : Branch) → recorded tr b ≡ true → (how : How) × (recorded_as tr b ≡ Some how)
recorded_how tr b r = how_of (heuristic_rows tr) b r

pub recorded_kept : (tr : Trace) (e : Happening) (b : Branch) → recorded tr b ≡ true → recorded (Then tr e) b ≡ true
recorded_kept tr e b r = let h = recorded_how tr b r in has_of (heuristic_rows (Then tr e)) b h.0 (recorded_as_kept tr e b h.0 h.1)

-- why a branch is recorded: it was, or an answer is heard, or the change in doubt was made
pub data NewRecord (tr : Trace) (e : Happening) (b : Branch) (how : How) : Type 0 where
  Had_record : recorded_as tr b ≡ Some how → NewRecord tr e b how
  By_answer : (l : Line) (c : Call) (a : Answer) → e ≡ Heard l c a → record_of c a ≡ AddRecord (record { branch = b; how = how }) → NewRecord tr e b how
  By_doubt_too : doubt tr ≡ AddRecord (record { branch = b; how = how }) → NewRecord tr e b how

pub recorded_new : (tr : Trace) (e : Happening) (b : Branch) (how : How) → recorded_as (Then tr e) b ≡ Some how → NewRecord tr e b how
recorded_new tr (Heard l c a) b how r = by_case (changed_adds (record_of c a) b how (heuristic_rows tr) r)
  where
    by_case : (recorded_as tr b ≡ Some how) ⊎ (record_of c a ≡ AddRecord (record { branch = b; how = how })) → NewRecord tr (Heard l c a) b how
    by_case (inl h) = Had_record h
    by_case (inr h) = By_answer l c a refl h
recorded_new tr (Restarted i d n) b how r = by_case (restarted_adds _ (doubt tr) b how (heuristic_rows tr) r)
  where
    by_case : (recorded_as tr b ≡ Some how) ⊎ (doubt tr ≡ AddRecord (record { branch = b; how = how })) → NewRecord tr (Restarted i d n) b how
    by_case (inl h) = Had_record h
    by_case (inr h) = By_doubt_too h
recorded_new tr _ b how r = Had_record r
