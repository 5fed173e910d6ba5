-- What a right history leaves, the next start resumes.
use Rattle.std.proofs.Common.{◌≡◌, ℕ, ◌+◌, ◌<◌, List, [], ◌∷◌, ◌++◌, length, Bool, true, false, ◌&&◌, ◌==◌, refl, sym, ap, ◌∙◌, subst, arith, length-append}
use Rattle.std.specs.Prelude.{if◌then◌else◌}
use Rattle.std.proofs.lemmas.Bool.{and_parts, ltb-true, lt-ltb, eq-eqb, eqb-true}
use Rattle.xa_base.specs.Branch.{IsBranch, gtrid_eq, xid_of_branch}
use Rattle.xa_base.specs.HeldBranch.{HeldBranch, new_branch}
use Rattle.xa_base.specs.StateTable.{state_of, broken}
use Rattle.xa_model.specs.Facts.{doubt, fits, has_record, held_of, heuristic_rows, heuristics_changed, incarnation, log, retries, rows_changed, standing, vote, without, without_each, Change, Change.AddRows, Change.DropRows, Change.AddRecord, Change.NoChange}
use Rattle.xa_model.specs.Facts.InDoubt.{name_of}
use Rattle.xa_model.specs.Promises.Processes.{AllAreNamed, IsLeft, IsLeft.Made, IsLeft.Unmade, Resumes, SameRecords, SameRows, gone, held_in, next_start}
use Rattle.xa_model.specs.Trace.{Branch, Gtrid, Name.Ours, Recorded, Row, Trace}
use Rattle.xa_model.proofs.NameLemmas.OwnNames.{own_name}

-- ** numbers that fit

pub fits_branch : (b : Branch) → fits b ≡ true → IsBranch b
fits_branch b h =
    let p = and_parts _ _ h in let g = and_parts _ _ p.0 in let t = and_parts _ _ p.1 in
    record { incarnation = ltb-true _ _ g.0; sequence = ltb-true _ _ g.1; thread = ltb-true _ _ t.0; rm = ltb-true _ _ t.1 }

pub branch_fits : (b : Branch) → IsBranch b → fits b ≡ true
branch_fits b h = λ i.
    (lt-ltb _ _ h.incarnation i && lt-ltb _ _ h.sequence i) && (lt-ltb _ _ h.thread i && lt-ltb _ _ h.rm i)

-- ** the log

same_rows : (xs : List Row) → SameRows xs xs
same_rows xs = record { number = refl; count = λ g. refl; participants = λ g b. refl }

same_records : (xs : List Recorded) → SameRecords xs xs
same_records xs = record { number = refl; branches = λ b. refl }

-- the number of rows tells whether the change was made
without_length : (g : Gtrid) (xs : List Row) → length (without g xs) < length xs + 1
without_length g [] = omega arith
without_length g (x ∷ xs) = by_test (gtrid_eq x.gtrid g) (without_length g xs)
  where
    by_test : (t : Bool) → length (without g xs) < length xs + 1 → length (if t then without g xs else x ∷ without g xs) < length (x ∷ xs) + 1
    by_test true f = omega (arith, f)
    by_test false f = omega (arith, f)

without_all : (g : Gtrid) (xs : List Row) → length (without g xs) ≡ length xs → without g xs ≡ xs
without_all g [] e = refl
without_all g (x ∷ xs) e = by_test (gtrid_eq x.gtrid g) e (without_all g xs)
  where
    by_test : (t : Bool) → length (if t then without g xs else x ∷ without g xs) ≡ length (x ∷ xs)
        → (length (without g xs) ≡ length xs → without g xs ≡ xs) → (if t then without g xs else x ∷ without g xs) ≡ x ∷ xs
    by_test true e f = let l = without_length g xs in absurd (omega (arith, e, l))
    by_test false e f = ap (λ ys. x ∷ ys) (f (omega (arith, e)))

without_each_length : (gs : List Gtrid) (xs : List Row) → length (without_each gs xs) < length xs + 1
without_each_length [] xs = omega arith
without_each_length (g ∷ gs) xs =
    let m = without_each_length gs (without g xs) in let n = without_length g xs in omega (arith, m, n)

without_each_all : (gs : List Gtrid) (xs : List Row) → length (without_each gs xs) ≡ length xs → without_each gs xs ≡ xs
without_each_all [] xs e = refl
without_each_all (g ∷ gs) xs e =
    let m = without_each_length gs (without g xs) in let n = without_length g xs in
    without_each_all gs (without g xs) (omega (arith, e, m, n)) ∙ without_all g xs (omega (arith, e, m, n))

joined_none : (rows xs : List Row) → length (rows ++ xs) ≡ length xs → rows ++ xs ≡ xs
joined_none [] xs e = refl
joined_none (x ∷ rows) xs e = let n = length-append rows xs in absurd (omega (arith, e, n))

unchanged_rows : (c : Change) (xs : List Row) → length (rows_changed c xs) ≡ length xs → rows_changed c xs ≡ xs
unchanged_rows (AddRows rows) xs e = joined_none rows xs e
unchanged_rows (DropRows gs) xs e = without_each_all gs xs e
unchanged_rows (AddRecord x) xs e = refl
unchanged_rows NoChange xs e = refl

unchanged_records : (c : Change) (xs : List Recorded) → length (heuristics_changed c xs) ≡ length xs → heuristics_changed c xs ≡ xs
unchanged_records (AddRows rows) xs e = refl
unchanged_records (DropRows gs) xs e = refl
unchanged_records (AddRecord x) xs e = by_test (has_record xs x.branch) e
  where
    by_test : (t : Bool) → length (if t then xs else x ∷ xs) ≡ length xs → (if t then xs else x ∷ xs) ≡ xs
    by_test true e = refl
    by_test false e = absurd (omega (arith, e))
unchanged_records NoChange xs e = refl

rows_are : (past : Trace) (rows : List Row) (records : List Recorded) → IsLeft past rows records
    → SameRows rows (if length rows == length (log past) then log past else rows_changed (doubt past) (log past))
rows_are past _ _ Unmade =
    subst (λ t. SameRows (log past) (if t then log past else rows_changed (doubt past) (log past)))
    (sym (eq-eqb (length (log past)) (length (log past)) refl)) (same_rows (log past))
rows_are past _ _ Made = by_test (length (rows_changed (doubt past) (log past)) == length (log past)) refl
  where
    by_test : (t : Bool) → (length (rows_changed (doubt past) (log past)) == length (log past)) ≡ t
        → SameRows (rows_changed (doubt past) (log past)) (if t then log past else rows_changed (doubt past) (log past))
    by_test true e = subst (SameRows (rows_changed (doubt past) (log past))) (unchanged_rows (doubt past) (log past) (eqb-true _ _ e)) (same_rows _)
    by_test false e = same_rows _

records_are : (past : Trace) (rows : List Row) (records : List Recorded) → IsLeft past rows records
    → SameRecords records
    (if length records == length (heuristic_rows past) then heuristic_rows past else heuristics_changed (doubt past) (heuristic_rows past))
records_are past _ _ Unmade =
    subst (λ t. SameRecords (heuristic_rows past) (if t then heuristic_rows past else heuristics_changed (doubt past) (heuristic_rows past)))
    (sym (eq-eqb (length (heuristic_rows past)) (length (heuristic_rows past)) refl)) (same_records (heuristic_rows past))
records_are past _ _ Made = by_test (length (heuristics_changed (doubt past) (heuristic_rows past)) == length (heuristic_rows past)) refl
  where
    by_test : (t : Bool) → (length (heuristics_changed (doubt past) (heuristic_rows past)) == length (heuristic_rows past)) ≡ t
        → SameRecords (heuristics_changed (doubt past) (heuristic_rows past))
        (if t then heuristic_rows past else heuristics_changed (doubt past) (heuristic_rows past))
    by_test true e =
        subst (SameRecords (heuristics_changed (doubt past) (heuristic_rows past)))
        (unchanged_records (doubt past) (heuristic_rows past) (eqb-true _ _ e)) (same_records _)
    by_test false e = same_records _

-- ** the resource managers

held_there : (past : Trace) (i : ℕ) (rows : List Row) (records : List Recorded) (b : Branch) (t : Bool) → fits b ≡ t
    → held_of (next_start past i rows records) b ≡ (if t then held_in past (Ours b) else new_branch)
held_there past i rows records b true e =
    ap (λ t. if t then held_in past (name_of (xid_of_branch b)) else new_branch) e ∙ ap (held_in past) (own_name b (fits_branch b e))
held_there past i rows records b false e = ap (λ t. if t then held_in past (name_of (xid_of_branch b)) else new_branch) e

pub next_resumes : (past : Trace) (i : ℕ) (rows : List Row) (records : List Recorded) → AllAreNamed past → incarnation past < i
    → IsLeft past rows records → Resumes past (next_start past i rows records)
next_resumes past i rows records named later left = record {
  later = later;
  rows = rows_are past rows records left;
  records = records_are past rows records left;
  states = λ b. states b (fits b) refl;
  votes = λ b. votes b (fits b) refl;
  retries = λ b. retries_of b (fits b) refl;
}
  where
    states : (b : Branch) (t : Bool) → fits b ≡ t → state_of (held_of (next_start past i rows records) b).standing ≡ state_of (standing (gone past) b)
    states b true e = ap (λ (h : HeldBranch). state_of h.standing) (held_there past i rows records b true e)
    states b false e =
        ap (λ (h : HeldBranch). state_of h.standing) (held_there past i rows records b false e) ∙ sym (ap (λ f. state_of (broken f)) (named b e).0)

    votes : (b : Branch) (t : Bool) → fits b ≡ t → (held_of (next_start past i rows records) b).vote ≡ vote past b
    votes b true e = ap (λ (h : HeldBranch). h.vote) (held_there past i rows records b true e)
    votes b false e = ap (λ (h : HeldBranch). h.vote) (held_there past i rows records b false e) ∙ sym (named b e).1

    retries_of : (b : Branch) (t : Bool) → fits b ≡ t → (held_of (next_start past i rows records) b).retries ≡ retries past b
    retries_of b true e = ap (λ (h : HeldBranch). h.retries) (held_there past i rows records b true e)
    retries_of b false e = ap (λ (h : HeldBranch). h.retries) (held_there past i rows records b false e) ∙ sym (named b e).2
