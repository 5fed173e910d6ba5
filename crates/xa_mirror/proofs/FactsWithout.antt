-- What a history says without a decision: all that it says of other transactions, and of what was
-- called and answered.
use Rattle.std.proofs.Common.{◌≡◌, ℕ, ◌+◌, ◌-◌, List, [], ◌∷◌, ◌++◌, length, Bool, true, false, ◌&&◌, ◌||◌, ◌==◌, refl, sym, ap, ◌∙◌}
use Rattle.std.proofs.lemmas.Bool.{eq-eqb, eqb-true}
use Rattle.std.specs.Prelude.{filter, if◌then◌else◌, Option, Some, None, slice_get}
use Rattle.xa_base.specs.Branch.{branch_eq, gtrid_eq}
use Rattle.xa_base.specs.StateTable.{asks_of, broken, completed}
use Rattle.xa_base.specs.declared.answer.Answer.TheVariants.{Page, Ret}
use Rattle.xa_base.specs.declared.call.Call.TheVariants as Calls
use Rattle.xa_base.specs.declared.code.Code.TheVariants as Codes
use Rattle.xa_base.specs.declared.step.Outcome.TheVariants as Outcome
use Rattle.xa_base.specs.declared.step.Part.TheVariants as Part
use Rattle.xa_mirror.proofs.RowsWithout.{change_without, in_any_order, records_after, rows_of_others, rows_without_after, unchanged, without_first, without_none, without_same}
use Rattle.xa_mirror.specs.HistoryWithout.{fault_without, history_without}
use Rattle.xa_model.proofs.ProcessLemmas.SameParts.{breaks_is}
use Rattle.xa_model.specs.Facts.{Change.AddRows, begun, branches, breaks, doubt, fault_change, handed_over, heard, heuristic_rows, heuristics_changed, incarnation, log, new_heard, new_taken, next_answer, page, page_after, record_of, record_of_next, retries, row_for, rows_changed, says_yes, says_yes_in, sequence, standing, started, takes_part, taken, up, vote, was_told, was_told_lately, without}
use Rattle.xa_model.specs.Facts.Standings.{moved_by}
use Rattle.xa_model.specs.Trace.{Answer, Branch, Call, Fault, Fault.InDecide, Fault.InDone, Fault.InHear, Fault.InResolve, Fault.InRestart, Gtrid, Happening, Happening.Begun, Happening.CompletedAlone, Happening.Crashed, Happening.Decided, Happening.Done, Happening.Failed, Happening.Heard, Happening.Issued, Happening.Nothing, Happening.PutOff, Happening.Restarted, Happening.Took, Happening.Voted, Line, Trace, Trace.From, Trace.Then, line, line_of}

-- no record is a row
record_made : (g : Gtrid) (c : Call) (a : Answer) → change_without g (record_of c a) ≡ record_of c a
record_made g (Calls.Commit b one) (Ret (Codes.Heuristic how)) = refl
record_made g (Calls.Rollback b) (Ret (Codes.Heuristic how)) = refl
record_made g _ _ = refl

record_kept : (g : Gtrid) (x : Option (Call × Answer)) → change_without g (record_of_next x) ≡ record_of_next x
record_kept g (Some p) = record_made g p.0 p.1
record_kept g None = refl

-- what happens in the place of a decision
pub either : (P : Happening → Type 0) (h : Gtrid) (t : Bool) → P Nothing → P (Decided h Outcome.Commit) → P (if t then Nothing else Decided h Outcome.Commit)
either P h true none some = none
either P h false none some = some

-- or in the place of its row leaving the log
pub either_done : (P : Happening → Type 0) (h : Gtrid) (t : Bool) → P Nothing → P (Done h) → P (if t then Nothing else Done h)
either_done P h true none some = none
either_done P h false none some = some

module _ (g : Gtrid) where
  abbrev o : Trace → Trace
  o tr = history_without g tr

  -- ** the manager

  pub up_is : (tr : Trace) → up (o tr) ≡ up tr
  up_is (From x) = refl
  up_is (Then tr (Decided h Outcome.Commit)) = either (λ e. up (Then (o tr) e) ≡ up tr) h (gtrid_eq h g) (up_is tr) (up_is tr)
  up_is (Then tr (Done h)) = either_done (λ e. up (Then (o tr) e) ≡ up tr) h (gtrid_eq h g) (up_is tr) (up_is tr)
  up_is (Then tr (Failed f)) = refl
  up_is (Then tr (Restarted i d h)) = refl
  up_is (Then tr (Crashed Part.Manager)) = refl
  up_is (Then tr _) = up_is tr

  pub incarnation_is : (tr : Trace) → incarnation (o tr) ≡ incarnation tr
  incarnation_is (From x) = refl
  incarnation_is (Then tr (Decided h Outcome.Commit)) =
      either (λ e. incarnation (Then (o tr) e) ≡ incarnation tr) h (gtrid_eq h g) (incarnation_is tr) (incarnation_is tr)
  incarnation_is (Then tr (Done h)) =
      either_done (λ e. incarnation (Then (o tr) e) ≡ incarnation tr) h (gtrid_eq h g) (incarnation_is tr) (incarnation_is tr)
  incarnation_is (Then tr (Restarted i d h)) = refl
  incarnation_is (Then tr (Failed f)) = incarnation_is tr
  incarnation_is (Then tr _) = incarnation_is tr

  pub sequence_is : (tr : Trace) → sequence (o tr) ≡ sequence tr
  sequence_is (From x) = refl
  sequence_is (Then tr (Decided h Outcome.Commit)) =
      either (λ e. sequence (Then (o tr) e) ≡ sequence tr) h (gtrid_eq h g) (sequence_is tr) (sequence_is tr)
  sequence_is (Then tr (Done h)) =
      either_done (λ e. sequence (Then (o tr) e) ≡ sequence tr) h (gtrid_eq h g) (sequence_is tr) (sequence_is tr)
  sequence_is (Then tr (Begun h)) = ap (λ n. n + 1) (sequence_is tr)
  sequence_is (Then tr (Restarted i d h)) = refl
  sequence_is (Then tr (Failed f)) = sequence_is tr
  sequence_is (Then tr _) = sequence_is tr

  pub begun_is : (tr : Trace) (h : Gtrid) → begun (o tr) h ≡ begun tr h
  begun_is (From x) h = refl
  begun_is (Then tr (Decided k Outcome.Commit)) h =
      either (λ e. begun (Then (o tr) e) h ≡ begun tr h) k (gtrid_eq k g) (begun_is tr h) (begun_is tr h)
  begun_is (Then tr (Done k)) h =
      either_done (λ e. begun (Then (o tr) e) h ≡ begun tr h) k (gtrid_eq k g) (begun_is tr h) (begun_is tr h)
  begun_is (Then tr (Begun k)) h = ap (λ t. gtrid_eq k h || t) (begun_is tr h)
  begun_is (Then tr (Failed f)) h = refl
  begun_is (Then tr (Restarted i d n)) h = refl
  begun_is (Then tr (Crashed Part.Manager)) h = refl
  begun_is (Then tr _) h = begun_is tr h

  -- ** branches, calls and answers

  pub started_is : (tr : Trace) (b : Branch) → started (o tr) b ≡ started tr b
  started_is (From x) b = refl
  started_is (Then tr (Decided h Outcome.Commit)) b =
      either (λ e. started (Then (o tr) e) b ≡ started tr b) h (gtrid_eq h g) (started_is tr b) (started_is tr b)
  started_is (Then tr (Done h)) b =
      either_done (λ e. started (Then (o tr) e) b ≡ started tr b) h (gtrid_eq h g) (started_is tr b) (started_is tr b)
  started_is (Then tr (Issued l (Calls.Start c join))) b = ap (λ t. branch_eq c b || t) (started_is tr b)
  started_is (Then tr (Failed f)) b = started_is tr b
  started_is (Then tr _) b = started_is tr b

  pub branches_are : (tr : Trace) → branches (o tr) ≡ branches tr
  branches_are (From x) = refl
  branches_are (Then tr (Decided h Outcome.Commit)) =
      either (λ e. branches (Then (o tr) e) ≡ branches tr) h (gtrid_eq h g) (branches_are tr) (branches_are tr)
  branches_are (Then tr (Done h)) =
      either_done (λ e. branches (Then (o tr) e) ≡ branches tr) h (gtrid_eq h g) (branches_are tr) (branches_are tr)
  branches_are (Then tr (Issued l (Calls.Start c join))) = ap (λ bs. c ∷ bs) (branches_are tr)
  branches_are (Then tr (Failed f)) = branches_are tr
  branches_are (Then tr _) = branches_are tr

  pub handed_is : (tr : Trace) (h : Gtrid) → handed_over (o tr) h ≡ handed_over tr h
  handed_is (From x) h = refl
  handed_is (Then tr (Decided k Outcome.Commit)) h =
      either (λ e. handed_over (Then (o tr) e) h ≡ handed_over tr h) k (gtrid_eq k g) (handed_is tr h) (handed_is tr h)
  handed_is (Then tr (Done k)) h =
      either_done (λ e. handed_over (Then (o tr) e) h ≡ handed_over tr h) k (gtrid_eq k g) (handed_is tr h) (handed_is tr h)
  handed_is (Then tr (Issued l (Calls.Commit b true))) h = ap (λ t. gtrid_eq b.gtrid h || t) (handed_is tr h)
  handed_is (Then tr (Failed f)) h = handed_is tr h
  handed_is (Then tr _) h = handed_is tr h

  pub told_is : (tr : Trace) (test : Call → Answer → Bool) → was_told (o tr) test ≡ was_told tr test
  told_is (From x) test = refl
  told_is (Then tr (Decided h Outcome.Commit)) test =
      either (λ e. was_told (Then (o tr) e) test ≡ was_told tr test) h (gtrid_eq h g) (told_is tr test) (told_is tr test)
  told_is (Then tr (Done h)) test =
      either_done (λ e. was_told (Then (o tr) e) test ≡ was_told tr test) h (gtrid_eq h g) (told_is tr test) (told_is tr test)
  told_is (Then tr (Heard l c a)) test = ap (λ t. test c a || t) (told_is tr test)
  told_is (Then tr (Failed f)) test = told_is tr test
  told_is (Then tr _) test = told_is tr test

  pub lately_is : (tr : Trace) (test : Call → Answer → Bool) → was_told_lately (o tr) test ≡ was_told_lately tr test
  lately_is (From x) test = refl
  lately_is (Then tr (Decided h Outcome.Commit)) test =
      either (λ e. was_told_lately (Then (o tr) e) test ≡ was_told_lately tr test) h (gtrid_eq h g) (lately_is tr test) (lately_is tr test)
  lately_is (Then tr (Done h)) test =
      either_done (λ e. was_told_lately (Then (o tr) e) test ≡ was_told_lately tr test) h (gtrid_eq h g) (lately_is tr test) (lately_is tr test)
  lately_is (Then tr (Restarted i d h)) test = refl
  lately_is (Then tr (Heard l c a)) test = ap (λ t. test c a || t) (lately_is tr test)
  lately_is (Then tr (Failed f)) test = lately_is tr test
  lately_is (Then tr _) test = lately_is tr test

  pub broken_is : (tr : Trace) (e : Happening) (l : Line) → breaks (o tr) e l ≡ breaks tr e l
  broken_is tr e l = breaks_is (o tr) tr e l (up_is tr)

  pub page_is : (tr : Trace) (r : ℕ) → page (o tr) r ≡ page tr r
  page_is (From x) r = refl
  page_is (Then tr (Decided h Outcome.Commit)) r =
      either (λ e. page (Then (o tr) e) r ≡ page tr r) h (gtrid_eq h g) (page_is tr r) (page_is tr r)
  page_is (Then tr (Done h)) r =
      either_done (λ e. page (Then (o tr) e) r ≡ page tr r) h (gtrid_eq h g) (page_is tr r) (page_is tr r)
  page_is (Then tr (Failed f)) r = λ i. if up_is tr i then [] else page_is tr r i
  page_is (Then tr (Restarted i d h)) r = page_is tr r
  page_is (Then tr e) r = λ i. if broken_is tr e (line 0 r) i then [] else page_after (page_is tr r i) e r

  pub taken_is : (tr : Trace) (l : Line) → taken (o tr) l ≡ taken tr l
  taken_is (From x) l = refl
  taken_is (Then tr (Decided h Outcome.Commit)) l =
      either (λ e. taken (Then (o tr) e) l ≡ taken tr l ++ []) h (gtrid_eq h g) (ap (λ xs. xs ++ []) (taken_is tr l)) (ap (λ xs. xs ++ []) (taken_is tr l))
  taken_is (Then tr (Done h)) l =
      either_done (λ e. taken (Then (o tr) e) l ≡ taken tr l ++ []) h (gtrid_eq h g) (ap (λ xs. xs ++ []) (taken_is tr l)) (ap (λ xs. xs ++ []) (taken_is tr l))
  taken_is (Then tr (Failed f)) l = λ i. if up_is tr i then [] else taken_is tr l i ++ []
  taken_is (Then tr (Restarted i d h)) l = ap (λ xs. xs ++ []) (taken_is tr l)
  taken_is (Then tr e) l = λ i. if broken_is tr e l i then [] else taken_is tr l i ++ new_taken e l

  pub heard_is : (tr : Trace) (l : Line) → heard (o tr) l ≡ heard tr l
  heard_is (From x) l = refl
  heard_is (Then tr (Decided h Outcome.Commit)) l =
      either (λ e. heard (Then (o tr) e) l ≡ heard tr l ++ []) h (gtrid_eq h g) (ap (λ xs. xs ++ []) (heard_is tr l)) (ap (λ xs. xs ++ []) (heard_is tr l))
  heard_is (Then tr (Done h)) l =
      either_done (λ e. heard (Then (o tr) e) l ≡ heard tr l ++ []) h (gtrid_eq h g) (ap (λ xs. xs ++ []) (heard_is tr l)) (ap (λ xs. xs ++ []) (heard_is tr l))
  heard_is (Then tr (Failed f)) l = λ i. if up_is tr i then [] else heard_is tr l i ++ []
  heard_is (Then tr (Restarted i d h)) l = ap (λ xs. xs ++ []) (heard_is tr l)
  heard_is (Then tr e) l = λ i. if broken_is tr e l i then [] else heard_is tr l i ++ new_heard e l

  pub next_answer_is : (tr : Trace) (l : Line) → next_answer (o tr) l ≡ next_answer tr l
  next_answer_is tr l = λ i. slice_get (taken_is tr l i) (length (heard_is tr l i))

  -- ** where branches stand

  pub standing_is : (tr : Trace) (b : Branch) → standing (o tr) b ≡ standing tr b
  standing_is (From x) b = refl
  standing_is (Then tr (Decided h Outcome.Commit)) b =
      either (λ e. standing (Then (o tr) e) b ≡ standing tr b) h (gtrid_eq h g) (standing_is tr b) (standing_is tr b)
  standing_is (Then tr (Done h)) b =
      either_done (λ e. standing (Then (o tr) e) b ≡ standing tr b) h (gtrid_eq h g) (standing_is tr b) (standing_is tr b)
  standing_is (Then tr (Failed f)) b = λ i. if up_is tr i then broken (standing_is tr b i) else standing_is tr b i
  standing_is (Then tr (Restarted i d h)) b = standing_is tr b
  standing_is (Then tr (Took l c (Ret a))) b = ap (moved_by (asks_of c) a b) (standing_is tr b)
  standing_is (Then tr (Took l c (Page names))) b = standing_is tr b
  standing_is (Then tr (CompletedAlone c how)) b = ap (λ f. if branch_eq c b then completed f how else f) (standing_is tr b)
  standing_is (Then tr e) b = λ i. if broken_is tr e (line_of b) i then broken (standing_is tr b i) else standing_is tr b i

  pub vote_is : (tr : Trace) (b : Branch) → vote (o tr) b ≡ vote tr b
  vote_is (From x) b = refl
  vote_is (Then tr (Decided h Outcome.Commit)) b =
      either (λ e. vote (Then (o tr) e) b ≡ vote tr b) h (gtrid_eq h g) (vote_is tr b) (vote_is tr b)
  vote_is (Then tr (Done h)) b =
      either_done (λ e. vote (Then (o tr) e) b ≡ vote tr b) h (gtrid_eq h g) (vote_is tr b) (vote_is tr b)
  vote_is (Then tr (Voted c v)) b = ap (λ w. if branch_eq c b then v else w) (vote_is tr b)
  vote_is (Then tr (Failed f)) b = vote_is tr b
  vote_is (Then tr _) b = vote_is tr b

  pub retries_are : (tr : Trace) (b : Branch) → retries (o tr) b ≡ retries tr b
  retries_are (From x) b = refl
  retries_are (Then tr (Decided h Outcome.Commit)) b =
      either (λ e. retries (Then (o tr) e) b ≡ retries tr b) h (gtrid_eq h g) (retries_are tr b) (retries_are tr b)
  retries_are (Then tr (Done h)) b =
      either_done (λ e. retries (Then (o tr) e) b ≡ retries tr b) h (gtrid_eq h g) (retries_are tr b) (retries_are tr b)
  retries_are (Then tr (PutOff c n)) b = ap (λ k. if branch_eq c b then n else k) (retries_are tr b)
  retries_are (Then tr (Took l (Calls.Commit c false) (Ret Codes.Retry))) b = ap (λ k. if branch_eq c b then k - 1 else k) (retries_are tr b)
  retries_are (Then tr (Failed f)) b = retries_are tr b
  retries_are (Then tr _) b = retries_are tr b

  -- ** the log

  part_is : (tr : Trace) (h : Gtrid) (b : Branch) → takes_part (o tr) h b ≡ takes_part tr h b
  part_is tr h b = ap (λ t. gtrid_eq b.gtrid h && t) (told_is tr (says_yes b))

  same_filter : (p q : Branch → Bool) → ((b : Branch) → p b ≡ q b) → (bs : List Branch) → filter p bs ≡ filter q bs
  same_filter p q same bs = ap (λ r. filter r bs) (λ i b. same b i)

  pub row_is : (tr : Trace) (h : Gtrid) → row_for (o tr) h ≡ row_for tr h
  row_is tr h = λ i. record { gtrid = h; participants = parts i }
    where
      parts : filter (takes_part (o tr) h) (branches (o tr)) ≡ filter (takes_part tr h) (branches tr)
      parts = same_filter (takes_part (o tr) h) (takes_part tr h) (part_is tr h) (branches (o tr)) ∙ ap (filter (takes_part tr h)) (branches_are tr)

  pub doubt_is : (tr : Trace) → doubt (o tr) ≡ change_without g (doubt tr)
  doubt_is (From x) = refl
  doubt_is (Then tr (Decided h Outcome.Commit)) =
      either (λ e. doubt (Then (o tr) e) ≡ change_without g (doubt tr)) h (gtrid_eq h g) (doubt_is tr) (doubt_is tr)
  doubt_is (Then tr (Done h)) =
      either_done (λ e. doubt (Then (o tr) e) ≡ change_without g (doubt tr)) h (gtrid_eq h g) (doubt_is tr) (doubt_is tr)
  doubt_is (Then tr (Restarted i d h)) = refl
  doubt_is (Then tr (Failed f)) = by (doubt_is tr) (up tr) (up_is tr)
    where
      changed : (f : Fault) → fault_change (o tr) (fault_without g f) ≡ change_without g (fault_change tr f)
      changed (InDecide gs) = ap (λ xs. AddRows xs) (rows_of_others g tr (o tr) (row_is tr) gs)
      changed (InDone gs) = refl
      changed (InHear l) = ap record_of_next (next_answer_is tr l) ∙ sym (record_kept g (next_answer tr l))
      changed InResolve = refl
      changed InRestart = refl

      by : doubt (o tr) ≡ change_without g (doubt tr) → (t : Bool) → up (o tr) ≡ t → (if up (o tr) then fault_change (o tr) (fault_without g f) else doubt (o tr))
          ≡ change_without g (if t then fault_change tr f else doubt tr)
      by rest true e = ap (λ t. if t then fault_change (o tr) (fault_without g f) else doubt (o tr)) e ∙ changed f
      by rest false e = ap (λ t. if t then fault_change (o tr) (fault_without g f) else doubt (o tr)) e ∙ rest
  doubt_is (Then tr _) = doubt_is tr

  pub log_is : (tr : Trace) → log (o tr) ≡ without g (log tr)
  log_is (From x) = refl
  log_is (Then tr (Decided h Outcome.Commit)) = by (log_is tr) (gtrid_eq h g) refl (was_told tr (says_yes_in h)) refl
    where
      kept : gtrid_eq h g ≡ false → (u : Bool)
          → (if u then row_for tr h ∷ without g (log tr) else without g (log tr)) ≡ without g (if u then row_for tr h ∷ log tr else log tr)
      kept e true = sym (without_first g (row_for tr h) (log tr) e)
      kept e false = refl

      by : log (o tr) ≡ without g (log tr) → (t : Bool) → gtrid_eq h g ≡ t → (u : Bool) → was_told tr (says_yes_in h) ≡ u
          → log (Then (o tr) (if t then Nothing else Decided h Outcome.Commit)) ≡ without g (if u then row_for tr h ∷ log tr else log tr)
      by rest true e true told = rest ∙ sym (without_none g (row_for tr h) (log tr) e)
      by rest true e false told = rest
      by rest false e u told =
          (λ i. if told_is tr (says_yes_in h) i then row_is tr h i ∷ rest i else rest i)
          ∙ (ap (λ t. if t then row_for tr h ∷ without g (log tr) else without g (log tr)) told ∙ kept e u)
  log_is (Then tr (Done h)) = by (log_is tr) (gtrid_eq h g) refl
    where
      by : log (o tr) ≡ without g (log tr) → (t : Bool) → gtrid_eq h g ≡ t
          → log (Then (o tr) (if t then Nothing else Done h)) ≡ without g (without h (log tr))
      by rest true e = rest ∙ sym (without_same g h (log tr) e)
      by rest false e = ap (without h) rest ∙ in_any_order g h (log tr)
  log_is (Then tr (Failed f)) = log_is tr
  log_is (Then tr (Restarted i d n)) = by (log_is tr) (d == length (log tr))
    where
      whichever : (m : ℕ) → m ≡ length (rows_changed (doubt (o tr)) (log (o tr))) → (t : Bool) → (m == length (log (o tr))) ≡ t
          → (if t then log (o tr) else rows_changed (doubt (o tr)) (log (o tr))) ≡ rows_changed (doubt (o tr)) (log (o tr))
      whichever m e true q = sym (unchanged (doubt (o tr)) (log (o tr)) (sym e ∙ eqb-true m (length (log (o tr))) q))
      whichever m e false q = refl

      by : log (o tr) ≡ without g (log tr) → (t : Bool)
          → (if length (without g (if t then log tr else rows_changed (doubt tr) (log tr))) == length (log (o tr)) then log (o tr)
          else rows_changed (doubt (o tr)) (log (o tr))) ≡ without g (if t then log tr else rows_changed (doubt tr) (log tr))
      by rest true =
          ap (λ t. if t then log (o tr) else rows_changed (doubt (o tr)) (log (o tr)))
          (eq-eqb (length (without g (log tr))) (length (log (o tr))) (ap length (sym rest))) ∙ rest
      by rest false =
          let changed : rows_changed (doubt (o tr)) (log (o tr)) ≡ without g (rows_changed (doubt tr) (log tr)) =
          (λ i. rows_changed (doubt_is tr i) (rest i)) ∙ rows_without_after g (doubt tr) (log tr) in
          whichever (length (without g (rows_changed (doubt tr) (log tr)))) (ap length (sym changed))
          (length (without g (rows_changed (doubt tr) (log tr))) == length (log (o tr))) refl ∙ changed
  log_is (Then tr _) = log_is tr

  pub records_are : (tr : Trace) → heuristic_rows (o tr) ≡ heuristic_rows tr
  records_are (From x) = refl
  records_are (Then tr (Decided h Outcome.Commit)) =
      either (λ e. heuristic_rows (Then (o tr) e) ≡ heuristic_rows tr) h (gtrid_eq h g) (records_are tr) (records_are tr)
  records_are (Then tr (Done h)) =
      either_done (λ e. heuristic_rows (Then (o tr) e) ≡ heuristic_rows tr) h (gtrid_eq h g) (records_are tr) (records_are tr)
  records_are (Then tr (Heard l c a)) = ap (heuristics_changed (record_of c a)) (records_are tr)
  records_are (Then tr (Failed f)) = records_are tr
  records_are (Then tr (Restarted i d n)) =
      (λ i. if n == length (records_are tr i) then records_are tr i else heuristics_changed (doubt_is tr i) (records_are tr i))
      ∙ ap (λ xs. if n == length (heuristic_rows tr) then heuristic_rows tr else xs) (records_after g (doubt tr) (heuristic_rows tr))
  records_are (Then tr _) = records_are tr
