-- How an event changes the numbers of a book.
use Rattle.std.proofs.Common.{◌≡◌, ◌≤◌, ◌+◌, ◌-◌, ◌==◌, ℕ, List, [], ◌∷◌, length, Bool, true, false, not, ◌&&◌, ◌⊎◌, inl, inr, ap, length-append, arith}
use Rattle.std.proofs.lemmas.List.{length-map}
use Rattle.std.specs.Prelude.{if◌then◌else◌}
use Rattle.xa_base.specs.declared.branch.Gtrid.{Gtrid}
use Rattle.xa_base.specs.declared.call.Call.TheVariants as Calls
use Rattle.xa_base.specs.declared.step.Outcome.TheVariants as Outcome
use Rattle.xa_base.specs.Branch.{gtrid_eq}
use Rattle.xa_model.specs.Replies.Allowed.{failed_restarts}
use Rattle.xa_model.specs.Facts.{Change, Change.AddRows, Change.DropRows, Change.AddRecord, Change.NoChange, doubt, fault_change, has_record, heuristic_rows, heuristics_changed, log, next_answer, origin, record_of, record_of_next, row_for, rows_changed, says_yes_in, sequence, was_told, up, without, without_each, begins, has_voted}
use Rattle.xa_model.specs.Trace.{Fault, Fault.InDecide, Fault.InHear, Fault.InRestart, Happening.Begun, Happening.Decided, Happening.Done, Happening.Failed, Happening.Heard, Happening.Issued, Happening.Restarted, Recorded, Row, Trace, Trace.From, Trace.Then}
use Rattle.xa_tm.specs.Counts.{branch_count, is_counted, counts_as_settled, is_unsettled, lacks_vote, settler, unsettled, unvoted, voter}
use Rattle.xa_tm.specs.Limits.{counts_for, happenings}
use Rattle.xa_tm.proofs.History.RowCounts.{next_or_none}

-- ** numbers

pub begins_cover : (tr : Trace) → sequence tr ≤ begins tr
begins_cover (From o) = omega arith
begins_cover (Then tr (Begun g)) = let h = begins_cover tr in omega (arith, h)
begins_cover (Then tr (Restarted i d h)) = omega arith
begins_cover (Then tr _) = begins_cover tr

pub begins_few : (tr : Trace) → begins tr ≤ happenings tr
begins_few (From o) = omega arith
begins_few (Then tr (Begun g)) = let h = begins_few tr in omega (arith, h)
begins_few (Then tr _) = let h = begins_few tr in omega (arith, h)

pub failed_few : (tr : Trace) → failed_restarts tr ≤ happenings tr
failed_few (From o) = omega arith
failed_few (Then tr (Restarted i d h)) = omega arith
failed_few (Then tr (Failed InRestart)) = let h = failed_few tr in omega (arith, h)
failed_few (Then tr _) = let h = failed_few tr in omega (arith, h)

one_up : (t : Bool) (n m : ℕ) → n ≤ m → (if t then n + 1 else n) ≤ m + 1
one_up true n m h = omega (arith, h)
one_up false n m h = omega (arith, h)

one_down : (t : Bool) (n m : ℕ) → n ≤ m → (if t then n - 1 else n) ≤ m + 1
one_down true n m h = omega (arith, h)
one_down false n m h = omega (arith, h)

pub as_before : (n m w : ℕ) → n ≤ m → n ≤ m + w
as_before n m w h = omega (arith, h)

pub branches_few : (tr : Trace) (g : Gtrid) → branch_count tr g ≤ happenings tr
branches_few (From o) g = omega arith
branches_few (Then tr (Issued l (Calls.Start b false))) g = one_up (gtrid_eq b.gtrid g) _ _ (branches_few tr g)
branches_few (Then tr (Issued l (Calls.Start b true))) g = one_up (gtrid_eq b.gtrid g) _ _ (branches_few tr g)
branches_few (Then tr _) g = as_before _ _ _ (branches_few tr g)

pub unvoted_few : (tr : Trace) (g : Gtrid) → unvoted tr g ≤ happenings tr
unvoted_few (From o) g = omega arith
unvoted_few (Then tr (Issued l (Calls.Start b false))) g = one_up (gtrid_eq b.gtrid g && not (has_voted tr b)) _ _ (unvoted_few tr g)
unvoted_few (Then tr (Issued l (Calls.Start b true))) g = one_up (gtrid_eq b.gtrid g && not (has_voted tr b)) _ _ (unvoted_few tr g)
unvoted_few (Then tr (Heard l c a)) g = one_down (is_counted (lacks_vote tr) g (voter c a)) _ _ (unvoted_few tr g)
unvoted_few (Then tr _) g = as_before _ _ _ (unvoted_few tr g)

pub unsettled_few : (tr : Trace) (g : Gtrid) → unsettled tr g ≤ happenings tr
unsettled_few (From o) g = omega arith
unsettled_few (Then tr (Issued l (Calls.Start b false))) g = one_up (gtrid_eq b.gtrid g && not (counts_as_settled tr b)) _ _ (unsettled_few tr g)
unsettled_few (Then tr (Issued l (Calls.Start b true))) g = one_up (gtrid_eq b.gtrid g && not (counts_as_settled tr b)) _ _ (unsettled_few tr g)
unsettled_few (Then tr (Heard l c a)) g = one_down (is_counted (is_unsettled tr) g (settler c a)) _ _ (unsettled_few tr g)
unsettled_few (Then tr _) g = as_before _ _ _ (unsettled_few tr g)

-- ** numbers of rows

without_fewer : (g : Gtrid) (xs : List Row) → length (without g xs) ≤ length xs
without_fewer g [] = omega arith
without_fewer g (x ∷ xs) = by (gtrid_eq x.gtrid g) (without_fewer g xs)
  where
    by : (t : Bool) → length (without g xs) ≤ length xs → length (if t then without g xs else x ∷ without g xs) ≤ length (x ∷ xs)
    by true h = omega (arith, h)
    by false h = omega (arith, h)

without_each_fewer : (gs : List Gtrid) (xs : List Row) → length (without_each gs xs) ≤ length xs
without_each_fewer [] xs = omega arith
without_each_fewer (g ∷ gs) xs = let rest = without_each_fewer gs (without g xs) in let less = without_fewer g xs in omega (arith, rest, less)

-- how many rows a change adds
abbrev pub adds : Change → ℕ
adds (AddRows xs) = length xs
adds _ = 0

changed_few : (c : Change) (xs : List Row) → length (rows_changed c xs) ≤ length xs + adds c
changed_few (AddRows ys) xs = let both = length-append ys xs in omega (arith, both)
changed_few (DropRows gs) xs = let less = without_each_fewer gs xs in omega (arith, less)
changed_few (AddRecord x) xs = omega arith
changed_few NoChange xs = omega arith

recorded_few : (c : Change) (xs : List Recorded) (n : ℕ) → length xs ≤ n → length (heuristics_changed c xs) ≤ n + 1
recorded_few (AddRecord x) xs n h = by (has_record xs x.branch)
  where
    by : (t : Bool) → length (if t then xs else x ∷ xs) ≤ n + 1
    by true = omega (arith, h)
    by false = omega (arith, h)
recorded_few (AddRows ys) xs n h = omega (arith, h)
recorded_few (DropRows gs) xs n h = omega (arith, h)
recorded_few NoChange xs n h = omega (arith, h)

shifted : (n a m : ℕ) → n ≤ a + m + 1 → n ≤ a + (m + 1)
shifted n a m h = omega (arith, h)

fault_adds : (tr : Trace) (f : Fault) → adds (fault_change tr f) ≤ counts_for (Failed f)
fault_adds tr (InDecide []) = omega arith
fault_adds tr (InDecide (g ∷ gs)) = let long = length-map gs (row_for tr) in omega (arith, long)
fault_adds tr (InHear l) = by (next_or_none (next_answer tr l))
  where
    by : ((x : Recorded) × (record_of_next (next_answer tr l) ≡ AddRecord x)) ⊎ (record_of_next (next_answer tr l) ≡ NoChange)
        → adds (record_of_next (next_answer tr l)) ≤ 1
    by (inl w) = let none : adds (record_of_next (next_answer tr l)) ≡ 0 = ap adds w.1 in omega (arith, none)
    by (inr w) = let none : adds (record_of_next (next_answer tr l)) ≡ 0 = ap adds w in omega (arith, none)
fault_adds tr _ = omega arith

-- with those that are in doubt
rows_and_doubt : (tr : Trace) → length (log tr) + adds (doubt tr) ≤ length (origin tr).rows + happenings tr
rows_and_doubt (From o) = omega arith
rows_and_doubt (Then tr (Decided g Outcome.Commit)) = by (was_told tr (says_yes_in g)) (rows_and_doubt tr)
  where
    by : (t : Bool) → length (log tr) + adds (doubt tr) ≤ length (origin tr).rows + happenings tr
        → length (if t then row_for tr g ∷ log tr else log tr) + adds (doubt tr) ≤ length (origin tr).rows + (happenings tr + 1)
    by true h = omega (arith, h)
    by false h = omega (arith, h)
rows_and_doubt (Then tr (Done g)) = let less = without_fewer g (log tr) in let h = rows_and_doubt tr in omega (arith, less, h)
rows_and_doubt (Then tr (Failed f)) = by (up tr) (rows_and_doubt tr)
  where
    by : (t : Bool) → length (log tr) + adds (doubt tr) ≤ length (origin tr).rows + happenings tr
        → length (log tr) + adds (if t then fault_change tr f else doubt tr) ≤ length (origin tr).rows + (happenings tr + counts_for (Failed f))
    by true h = let few = fault_adds tr f in omega (arith, h, few)
    by false h = omega (arith, h)
rows_and_doubt (Then tr (Restarted i d n)) = by (d == length (log tr)) (rows_and_doubt tr)
  where
    by : (t : Bool) → length (log tr) + adds (doubt tr) ≤ length (origin tr).rows + happenings tr
        → length (if t then log tr else rows_changed (doubt tr) (log tr)) + 0 ≤ length (origin tr).rows + (happenings tr + 1)
    by true h = omega (arith, h)
    by false h = let few = changed_few (doubt tr) (log tr) in omega (arith, h, few)
rows_and_doubt (Then tr _) = let h = rows_and_doubt tr in omega (arith, h)

pub rows_few : (tr : Trace) → length (log tr) ≤ length (origin tr).rows + happenings tr
rows_few tr = let h = rows_and_doubt tr in omega (arith, h)

pub records_few : (tr : Trace) → length (heuristic_rows tr) ≤ length (origin tr).heuristic_rows + happenings tr
records_few (From o) = omega arith
records_few (Then tr (Heard l c a)) =
    shifted _ (length (origin tr).heuristic_rows) (happenings tr) (recorded_few (record_of c a) (heuristic_rows tr) _ (records_few tr))
records_few (Then tr (Restarted i d n)) = by (n == length (heuristic_rows tr)) (records_few tr)
  where
    by : (t : Bool) → length (heuristic_rows tr) ≤ length (origin tr).heuristic_rows + happenings tr
        → length (if t then heuristic_rows tr else heuristics_changed (doubt tr) (heuristic_rows tr)) ≤ length (origin tr).heuristic_rows + (happenings tr + 1)
    by true h = omega (arith, h)
    by false h = shifted _ (length (origin tr).heuristic_rows) (happenings tr) (recorded_few (doubt tr) (heuristic_rows tr) _ h)
records_few (Then tr _) = let h = records_few tr in omega (arith, h)
