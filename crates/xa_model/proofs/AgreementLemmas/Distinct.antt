-- No transaction has two rows, no branch two records, and none is started twice.
use Rattle.std.proofs.Common.{◌≡◌, List, [], ◌∷◌, ◌++◌, length, Bool, true, false, ◌||◌, ◌==◌, refl, sym, ap, ◌∙◌, subst}
use Rattle.std.specs.Prelude.{map, if◌then◌else◌, Option, Some, None}
use Rattle.std.proofs.lemmas.Bool.{false_from_ne_true, or_from}
use Rattle.xa_base.specs.declared.call.Call.TheVariants as Calls
use Rattle.xa_base.specs.declared.answer.Answer.TheVariants.{Ret}
use Rattle.xa_model.specs.Trace.{Gtrid, Branch, Call, Answer, Outcome, Fault, Fault.InDecide, Fault.InDone, Fault.InHear, Fault.InResolve, Fault.InRestart, Row, Recorded, Happening, Happening.Issued, Happening.Heard, Happening.Decided, Happening.Done, Happening.Failed, Happening.Restarted, Trace, Trace.From, Trace.Then}
use Rattle.xa_base.specs.declared.code.Code.TheVariants as Codes
use Rattle.xa_base.specs.Branch.{gtrid_eq, branch_eq}
use Rattle.xa_model.specs.Facts.{origin, up, live, started, branches, was_told, says_yes_in, log, heuristic_rows, doubt, fault_change, record_of, record_of_next, row_for, lists_row, without, without_each, has_branch, has_gtrid, has_record, rows_changed, heuristics_changed, next_answer, Change, Change.AddRows, Change.DropRows, Change.AddRecord, Change.NoChange}
use Rattle.xa_model.specs.Facts.Distinct.{ApartRows, ApartRecords, ApartBranches, EachOnce, IsNewTo}
use Rattle.xa_model.specs.Protocol.{Right, RightDone, RightFault, RightRow, IsRun}
use Rattle.xa_model.proofs.Invariant.Grows.{both}
use Rattle.xa_model.proofs.Invariant.{Inv}
use Rattle.xa_model.proofs.Invariant.Preservation.{run_always}
use Rattle.xa_model.proofs.Invariant.RowLists.{listed_joined, rows_made, without_keeps}

-- ** rows

pub without_apart : (g : Gtrid) (rows : List Row) → ApartRows rows → ApartRows (without g rows)
without_apart g [] h = tt
without_apart g (x ∷ xs) h = by_test (gtrid_eq x.gtrid g) (without_apart g xs h.1)
  where
    by_test : (t : Bool) → ApartRows (without g xs) → ApartRows (if t then without g xs else x ∷ without g xs)
    by_test true k = k
    by_test false k = (false_from_ne_true _ (λ e. both (lists_row xs x.gtrid) (without_keeps g x.gtrid xs e) h.0), k)

without_each_apart : (gs : List Gtrid) (rows : List Row) → ApartRows rows → ApartRows (without_each gs rows)
without_each_apart [] rows h = h
without_each_apart (g ∷ gs) rows h = without_each_apart gs (without g rows) (without_apart g rows h)

rows_named : (xs : List Row) (g : Gtrid) → has_gtrid (map (λ (x : Row). x.gtrid) xs) g ≡ lists_row xs g
rows_named [] g = refl
rows_named (x ∷ xs) g = ap (λ t. gtrid_eq x.gtrid g || t) (rows_named xs g)

joined_apart : (xs rows : List Row) → IsNewTo rows (AddRows xs) → ApartRows rows → ApartRows (xs ++ rows)
joined_apart [] rows n h = h
joined_apart (x ∷ xs) rows n h =
    (listed_joined xs rows x.gtrid ∙ or_from _ _ (sym (rows_named xs x.gtrid) ∙ n.1) n.0, joined_apart xs rows n.2 h)

changed_apart : (c : Change) (rows : List Row) → IsNewTo rows c → ApartRows rows → ApartRows (rows_changed c rows)
changed_apart (AddRows xs) rows n h = joined_apart xs rows n h
changed_apart (DropRows gs) rows n h = without_each_apart gs rows h
changed_apart (AddRecord y) rows n h = h
changed_apart NoChange rows n h = h

-- a live transaction has no row
live_no_row : (tr : Trace) (g : Gtrid) → Inv tr → live tr g ≡ true → lists_row (log tr) g ≡ false
live_no_row tr g inv l = false_from_ne_true _ (λ e. both (live tr g) l (inv.rows g (inv.row_rowed g e)).closed.not_live)

made_new : (tr : Trace) (gs : List Gtrid) → Inv tr → EachOnce (RightRow tr) gs → IsNewTo (log tr) (AddRows (map (row_for tr) gs))
made_new tr [] inv r = tt
made_new tr (g ∷ gs) inv r = (
  live_no_row tr g inv r.0.0.is_live,
  rows_named (map (row_for tr) gs) g ∙ (rows_made tr gs g ∙ r.1),
  made_new tr gs inv r.2,
)

dropped_there : (tr : Trace) (gs : List Gtrid) → EachOnce (RightDone tr) gs → IsNewTo (log tr) (DropRows gs)
dropped_there tr [] r = tt
dropped_there tr (g ∷ gs) r = (r.0.has, r.1, dropped_there tr gs r.2)

record_new : (rows : List Row) (c : Call) (a : Answer) → IsNewTo rows (record_of c a)
record_new rows (Calls.Commit b false) (Ret (Codes.Heuristic how)) = tt
record_new rows (Calls.Commit b true) (Ret (Codes.Heuristic how)) = tt
record_new rows (Calls.Rollback b) (Ret (Codes.Heuristic how)) = tt
record_new rows _ _ = tt

next_new : (rows : List Row) (o : Option (Call × Answer)) → IsNewTo rows (record_of_next o)
next_new rows (Some p) = record_new rows p.0 p.1
next_new rows None = tt

fault_new : (tr : Trace) (f : Fault) → Inv tr → RightFault tr f → IsNewTo (log tr) (fault_change tr f)
fault_new tr (InDecide gs) inv r = made_new tr gs inv r
fault_new tr (InDone gs) inv r = dropped_there tr gs r
fault_new tr (InHear l) inv r = next_new (log tr) (next_answer tr l)
fault_new tr InResolve inv r = tt
fault_new tr InRestart inv r = tt

none_new : (tr : Trace) (rows : List Row) → Inv tr → up tr ≡ true → IsNewTo rows (doubt tr)
none_new tr rows inv u = subst (IsNewTo rows) (sym (inv.doubt_down u)) tt

-- the change in doubt is new to the rows
pub doubt_is_new_to : (tr : Trace) → IsRun tr → IsNewTo (log tr) (doubt tr)
doubt_is_new_to (From o) r = tt
doubt_is_new_to (Then tr (Failed f)) r = by_up (up tr) (doubt_is_new_to tr r.0)
  where
    by_up : (t : Bool) → IsNewTo (log tr) (doubt tr) → IsNewTo (log tr) (if t then fault_change tr f else doubt tr)
    by_up true k = fault_new tr f (run_always tr r.0) r.1
    by_up false k = k
doubt_is_new_to (Then tr (Restarted i d n)) r = tt
doubt_is_new_to (Then tr (Decided h o)) r = none_new tr (log (Then tr (Decided h o))) (run_always tr r.0) r.1.is_up
doubt_is_new_to (Then tr (Done h)) r = none_new tr (log (Then tr (Done h))) (run_always tr r.0) r.1.is_up
doubt_is_new_to (Then tr _) r = doubt_is_new_to tr r.0

rows_step : (tr : Trace) (e : Happening) → IsRun tr → Right tr e → ApartRows (log tr) → ApartRows (log (Then tr e))
rows_step tr (Decided g Outcome.Commit) a r h = by_test (was_told tr (says_yes_in g))
  where
    by_test : (t : Bool) → ApartRows (if t then row_for tr g ∷ log tr else log tr)
    by_test true = (live_no_row tr g (run_always tr a) r.is_live, h)
    by_test false = h
rows_step tr (Done g) a r h = without_apart g (log tr) h
rows_step tr (Restarted i d n) a r h = by_test (d == length (log tr))
  where
    by_test : (t : Bool) → ApartRows (if t then log tr else rows_changed (doubt tr) (log tr))
    by_test true = h
    by_test false = changed_apart (doubt tr) (log tr) (doubt_is_new_to tr a) h
rows_step tr _ a r h = h

pub rows_apart : (tr : Trace) → IsRun tr → ApartRows (origin tr).rows → ApartRows (log tr)
rows_apart (From o) r h = h
rows_apart (Then tr e) r h = rows_step tr e r.0 r.1 (rows_apart tr r.0 h)

-- ** records

heuristics_apart : (c : Change) (xs : List Recorded) → ApartRecords xs → ApartRecords (heuristics_changed c xs)
heuristics_apart (AddRecord x) xs h = by_test (has_record xs x.branch) refl
  where
    by_test : (t : Bool) → has_record xs x.branch ≡ t → ApartRecords (if t then xs else x ∷ xs)
    by_test true q = h
    by_test false q = (q, h)
heuristics_apart (AddRows rows) xs h = h
heuristics_apart (DropRows gs) xs h = h
heuristics_apart NoChange xs h = h

records_step : (tr : Trace) (e : Happening) → ApartRecords (heuristic_rows tr) → ApartRecords (heuristic_rows (Then tr e))
records_step tr (Heard l c a) h = heuristics_apart (record_of c a) (heuristic_rows tr) h
records_step tr (Restarted i d n) h = by_test (n == length (heuristic_rows tr))
  where
    by_test : (t : Bool) → ApartRecords (if t then heuristic_rows tr else heuristics_changed (doubt tr) (heuristic_rows tr))
    by_test true = h
    by_test false = heuristics_apart (doubt tr) (heuristic_rows tr) h
records_step tr _ h = h

pub records_apart : (tr : Trace) → ApartRecords (origin tr).heuristic_rows → ApartRecords (heuristic_rows tr)
records_apart (From o) h = h
records_apart (Then tr e) h = records_step tr e (records_apart tr h)

-- ** branches

-- the list has just the branches that were started
pub branches_listed : (tr : Trace) (b : Branch) → has_branch (branches tr) b ≡ started tr b
branches_listed (From o) b = refl
branches_listed (Then tr (Issued l (Calls.Start c false))) b = ap (λ t. branch_eq c b || t) (branches_listed tr b)
branches_listed (Then tr (Issued l (Calls.Start c true))) b = ap (λ t. branch_eq c b || t) (branches_listed tr b)
branches_listed (Then tr _) b = branches_listed tr b

branches_step : (tr : Trace) (e : Happening) → Right tr e → ApartBranches (branches tr) → ApartBranches (branches (Then tr e))
branches_step tr (Issued l (Calls.Start b false)) r h = (branches_listed tr b ∙ r.1.may_be.0, h)
branches_step tr (Issued l (Calls.Start b true)) r h = (branches_listed tr b ∙ r.1.may_be.0, h)
branches_step tr _ r h = h

pub branches_apart : (tr : Trace) → IsRun tr → ApartBranches (branches tr)
branches_apart (From o) r = tt
branches_apart (Then tr e) r = branches_step tr e r.1 (branches_apart tr r.0)
