-- A history that goes on, and the history of its last process alone: what the two have in common, kept by whatever happens in both.
use Rattle.std.proofs.Common.{◌≡◌, List, [], ◌∷◌, ◌++◌, length, Bool, true, false, ◌&&◌, ◌||◌, ◌==◌, ◌-◌, refl, sym, ap, ◌∙◌, subst}
use Rattle.std.specs.Prelude.{filter, map, if◌then◌else◌, slice_get}
use Rattle.xa_base.specs.Branch.{gtrid_eq, branch_eq}
use Rattle.xa_base.proofs.BranchKeys.{gtrid_eq-true}
use Rattle.xa_base.specs.StateTable.{state_of, asks_of, broken}
use Rattle.xa_base.specs.declared.answer.Answer.TheVariants.{Page, Ret}
use Rattle.xa_base.specs.declared.call.Call.TheVariants as Calls
use Rattle.xa_base.specs.declared.code.Code.TheVariants as Codes
use Rattle.xa_model.specs.Facts.{started, branches, was_told, was_told_lately, says_yes, says_yes_in, has_branch, has_row, recorded, record_of, record_of_next, row_for, takes_part, fault_change, doubt, log, heuristic_rows, rows_changed, heuristics_changed, Change.AddRows, page, resolving_calls, new_calls, new_taken, new_heard, next_answer, breaks, standing, vote, retries}
use Rattle.xa_model.specs.Facts.Distinct.{EachOnce}
use Rattle.xa_model.specs.Protocol.{Right, RightFault, RightRow}
use Rattle.xa_model.specs.Promises.Processes.{SameRows, SameRecords}
use Rattle.xa_model.specs.Trace.{Gtrid, Branch, Line, Call, Answer, Outcome, Fault, Fault.InDecide, Fault.InDone, Fault.InHear, Fault.InResolve, Fault.InRestart, Happening, Happening.Issued, Happening.Resolved, Happening.ResolvedOpen, Happening.Took, Happening.Heard, Happening.CompletedAlone, Happening.Voted, Happening.PutOff, Happening.Decided, Happening.Done, Happening.Failed, Happening.Restarted, Trace, Trace.Then, line, line_of, line_eq}
use Rattle.xa_model.proofs.Invariant.{Inv}
use Rattle.xa_model.proofs.ProcessLemmas.SameLogs.{rows_cons, rows_without, rows_found, records_after_change, records_found, same_listed}
use Rattle.xa_model.proofs.ProcessLemmas.SameStates.{same_moved_by, same_broken, same_completed}
use Rattle.xa_model.proofs.ProcessLemmas.Since.{IsLater, none_listed, none_said_yes, none_said_yes_in}
use Rattle.xa_model.proofs.ProcessLemmas.SameParts.{SameDeals, SameSayings, SameLog, SameLines, SameBranches, Faces, or_more, or_false, breaks_is, filter_first, same_resolving}
use Rattle.xa_model.proofs.ProcessLemmas.FacingDeals.{live_is, live_later, deals_after}

module _ (past : Trace) (inv : Inv past) where
  module _ (tr ur : Trace) (d : SameDeals past tr ur) where
    -- ** branches, and what was said

    started_after : SameSayings past tr ur → (e : Happening) (b : Branch) → started (Then tr e) b ≡ (started (Then ur e) b || started past b)
    started_after s (Issued l (Calls.Start c false)) b = or_more (branch_eq c b) _ _ _ (s.started_is b)
    started_after s (Issued l (Calls.Start c true)) b = or_more (branch_eq c b) _ _ _ (s.started_is b)
    started_after s _ b = s.started_is b

    branches_after : SameSayings past tr ur → (e : Happening) → branches (Then tr e) ≡ branches (Then ur e) ++ branches past
    branches_after s (Issued l (Calls.Start c false)) = ap (λ bs. c ∷ bs) s.branches_are
    branches_after s (Issued l (Calls.Start c true)) = ap (λ bs. c ∷ bs) s.branches_are
    branches_after s _ = s.branches_are

    told_after : SameSayings past tr ur → (e : Happening) (test : Call → Answer → Bool)
        → was_told (Then tr e) test ≡ (was_told (Then ur e) test || was_told past test)
    told_after s (Heard l c a) test = or_more (test c a) _ _ _ (s.told_is test)
    told_after s _ test = s.told_is test

    lately_after : SameSayings past tr ur → (e : Happening) (test : Call → Answer → Bool) → was_told_lately (Then tr e) test ≡ was_told_lately (Then ur e) test
    lately_after s (Restarted i n h) test = refl
    lately_after s (Heard l c a) test = ap (λ t. test c a || t) (s.lately_is test)
    lately_after s _ test = s.lately_is test

    sayings_after : SameSayings past tr ur → (e : Happening) → SameSayings past (Then tr e) (Then ur e)
    sayings_after s e = record {
      started_is = started_after s e;
      branches_are = branches_after s e;
      told_is = told_after s e;
      lately_is = lately_after s e;
    }

    -- ** the row of a transaction

    yes_is : SameSayings past tr ur → (b : Branch) → IsLater past b.gtrid → was_told tr (says_yes b) ≡ was_told ur (says_yes b)
    yes_is s b n = or_false _ _ _ (s.told_is (says_yes b)) (none_said_yes past b inv n)

    yes_in_is : SameSayings past tr ur → (g : Gtrid) → IsLater past g → was_told tr (says_yes_in g) ≡ was_told ur (says_yes_in g)
    yes_in_is s g n = or_false _ _ _ (s.told_is (says_yes_in g)) (none_said_yes_in past g inv n)

    part_is : SameSayings past tr ur → (g : Gtrid) → IsLater past g → (b : Branch) → takes_part tr g b ≡ takes_part ur g b
    part_is s g n b = by_test (gtrid_eq b.gtrid g) refl
      where
        by_test : (t : Bool) → gtrid_eq b.gtrid g ≡ t → (t && was_told tr (says_yes b)) ≡ (t && was_told ur (says_yes b))
        by_test true q = yes_is s b (subst (IsLater past) (sym (gtrid_eq-true b.gtrid g q)) n)
        by_test false q = refl

    no_part : (g : Gtrid) → IsLater past g → (b : Branch) → has_branch (branches past) b ≡ true → takes_part tr g b ≡ false
    no_part g n b h = by_test (gtrid_eq b.gtrid g) refl
      where
        clash : {t : Bool} → t ≡ true → t ≡ false → ⊥
        clash p q = cc

        by_test : (t : Bool) → gtrid_eq b.gtrid g ≡ t → (t && was_told tr (says_yes b)) ≡ false
        by_test true q = absurd (clash h (none_listed past b inv (subst (IsLater past) (sym (gtrid_eq-true b.gtrid g q)) n)))
        by_test false q = refl

    pub row_for_is : SameSayings past tr ur → (g : Gtrid) → IsLater past g → row_for tr g ≡ row_for ur g
    row_for_is s g n = λ i. record { gtrid = g; participants = parts i }
      where
        parts : filter (takes_part tr g) (branches tr) ≡ filter (takes_part ur g) (branches ur)
        parts =
            ap (filter (takes_part tr g)) s.branches_are
            ∙ filter_first (takes_part tr g) (takes_part ur g) (branches ur) (branches past) (part_is s g n) (no_part g n)

    rows_for_are : SameSayings past tr ur → (gs : List Gtrid) → EachOnce (RightRow ur) gs → map (row_for tr) gs ≡ map (row_for ur) gs
    rows_for_are s [] r = refl
    rows_for_are s (g ∷ gs) r = λ i. row_for_is s g (live_later past inv tr ur d g r.0.0.is_live) i ∷ rows_for_are s gs r.2 i

    -- ** the log

    next_answer_is : SameLines tr ur → (l : Line) → next_answer tr l ≡ next_answer ur l
    next_answer_is m l = λ i. slice_get (m.taken_is l i) (length (m.heard_is l i))

    fault_is : SameSayings past tr ur → SameLines tr ur → (f : Fault) → RightFault ur f → fault_change tr f ≡ fault_change ur f
    fault_is s m (InDecide gs) r = ap (λ x. AddRows x) (rows_for_are s gs r)
    fault_is s m (InDone gs) r = refl
    fault_is s m (InHear l) r = ap record_of_next (next_answer_is m l)
    fault_is s m InResolve r = refl
    fault_is s m InRestart r = refl

    doubt_after : SameSayings past tr ur → SameLines tr ur → SameLog tr ur → (e : Happening) → Right ur e → doubt (Then tr e) ≡ doubt (Then ur e)
    doubt_after s m k (Failed f) r = λ i. if d.up_is i then fault_is s m f r i else k.doubt_is i
    doubt_after s m k (Restarted i n h) r = refl
    doubt_after s m k _ r = k.doubt_is

    decided_rows : SameSayings past tr ur → SameLog tr ur → (g : Gtrid) → IsLater past g
        → SameRows (log (Then ur (Decided g Outcome.Commit))) (log (Then tr (Decided g Outcome.Commit)))
    decided_rows s k g n =
        subst (λ t. SameRows (log (Then ur (Decided g Outcome.Commit))) (if t then row_for tr g ∷ log tr else log tr)) (sym (yes_in_is s g n))
        (subst (λ x. SameRows (log (Then ur (Decided g Outcome.Commit))) (if was_told ur (says_yes_in g) then x ∷ log tr else log tr))
        (sym (row_for_is s g n)) (by_test (was_told ur (says_yes_in g))))
      where
        by_test : (t : Bool) → SameRows (if t then row_for ur g ∷ log ur else log ur) (if t then row_for ur g ∷ log tr else log tr)
        by_test true = rows_cons (row_for ur g) (log ur) (log tr) k.rows
        by_test false = k.rows

    pub rows_after : SameSayings past tr ur → SameLog tr ur → (e : Happening) → Right ur e → SameRows (log (Then ur e)) (log (Then tr e))
    rows_after s k (Decided g Outcome.Commit) r = decided_rows s k g (live_later past inv tr ur d g r.is_live)
    rows_after s k (Done g) r = rows_without g (log ur) (log tr) k.rows
    rows_after s k (Restarted i n h) r =
        subst (λ c. SameRows (log (Then ur (Restarted i n h))) (if n == length (log tr) then log tr else rows_changed c (log tr))) (sym k.doubt_is)
        (rows_found n (doubt ur) (log ur) (log tr) k.rows)
    rows_after s k _ r = k.rows

    pub records_after : SameLog tr ur → (e : Happening) → SameRecords (heuristic_rows (Then ur e)) (heuristic_rows (Then tr e))
    records_after k (Heard l c a) = records_after_change (record_of c a) (heuristic_rows ur) (heuristic_rows tr) k.records
    records_after k (Restarted i n h) =
        subst (λ c. SameRecords (heuristic_rows (Then ur (Restarted i n h)))
        (if h == length (heuristic_rows tr) then heuristic_rows tr else heuristics_changed c (heuristic_rows tr))) (sym k.doubt_is)
        (records_found h (doubt ur) (heuristic_rows ur) (heuristic_rows tr) k.records)
    records_after k _ = k.records

    -- ** lines

    pub row_is : SameLog tr ur → (g : Gtrid) → has_row tr g ≡ has_row ur g
    row_is k g = sym (same_listed (log ur) (log tr) k.rows g)

    pub record_is : SameLog tr ur → (b : Branch) → recorded tr b ≡ recorded ur b
    record_is k b = sym (k.records.branches b)

    calls_is : SameLog tr ur → (e : Happening) (l : Line) → Right ur e → new_calls tr e l ≡ new_calls ur e l
    calls_is k (Issued m c) l r = refl
    calls_is k (Resolved n) l r = λ i. if line_eq (line 0 n) l then same i else []
      where
        same : resolving_calls tr (page tr n) ≡ resolving_calls ur (page ur n)
        same = same_resolving tr ur (live_is past inv tr ur d) (record_is k) (row_is k) (page tr n) ∙ ap (resolving_calls ur) (d.page_is n)
    calls_is k (ResolvedOpen n) l r = λ i. if line_eq (line 0 n) l then same i else []
      where
        same : resolving_calls (Then tr (ResolvedOpen n)) (page tr n) ≡ resolving_calls (Then ur (ResolvedOpen n)) (page ur n)
        same =
            same_resolving (Then tr (ResolvedOpen n)) (Then ur (ResolvedOpen n))
            (live_is past inv (Then tr (ResolvedOpen n)) (Then ur (ResolvedOpen n))
            (deals_after past inv tr ur d (ResolvedOpen n) r)) (record_is k) (row_is k) (page tr n)
            ∙ ap (resolving_calls (Then ur (ResolvedOpen n))) (d.page_is n)
    calls_is k _ l r = refl

    lines_after : SameLog tr ur → SameLines tr ur → (e : Happening) → Right ur e → SameLines (Then tr e) (Then ur e)
    lines_after k m e r = record {
      issued_is = λ l i. if breaks_is tr ur e l d.up_is i then [] else m.issued_is l i ++ calls_is k e l r i;
      taken_is = λ l i. if breaks_is tr ur e l d.up_is i then [] else m.taken_is l i ++ new_taken e l;
      heard_is = λ l i. if breaks_is tr ur e l d.up_is i then [] else m.heard_is l i ++ new_heard e l;
    }

    -- ** resource managers

    states_after : SameBranches tr ur → (e : Happening) (b : Branch) → state_of (standing (Then ur e) b) ≡ state_of (standing (Then tr e) b)
    states_after h (Took l c (Ret a)) b = same_moved_by (asks_of c) a b (standing ur b) (standing tr b) (h.states b)
    states_after h (CompletedAlone c how) b = same_completed (standing ur b) (standing tr b) how (branch_eq c b) (h.states b)
    states_after h (Took l c (Page names)) b = h.states b
    states_after h e b =
        subst (λ t. state_of (standing (Then ur e) b) ≡ state_of (if t then broken (standing tr b) else standing tr b))
        (sym (breaks_is tr ur e (line_of b) d.up_is))
        (same_broken (standing ur b) (standing tr b) (breaks ur e (line_of b)) (h.states b))

    votes_after : SameBranches tr ur → (e : Happening) (b : Branch) → vote (Then ur e) b ≡ vote (Then tr e) b
    votes_after h (Voted c v) b = ap (λ w. if branch_eq c b then v else w) (h.votes b)
    votes_after h _ b = h.votes b

    retries_after : SameBranches tr ur → (e : Happening) (b : Branch) → retries (Then ur e) b ≡ retries (Then tr e) b
    retries_after h (PutOff c n) b = ap (λ k. if branch_eq c b then n else k) (h.retries b)
    retries_after h (Took l (Calls.Commit c false) (Ret Codes.Retry)) b = ap (λ k. if branch_eq c b then k - 1 else k) (h.retries b)
    retries_after h _ b = h.retries b

    -- ** all of it

    pub faces_after : Faces past tr ur → (e : Happening) → Right ur e → Faces past (Then tr e) (Then ur e)
    faces_after f e r = record {
      deals = deals_after past inv tr ur d e r;
      sayings = sayings_after f.sayings e;
      logs = record {
        rows = rows_after f.sayings f.logs e r;
        records = records_after f.logs e;
        doubt_is = doubt_after f.sayings f.lines f.logs e r;
      };
      lines = lines_after f.logs f.lines e r;
      held = record { states = states_after f.held e; votes = votes_after f.held e; retries = retries_after f.held e };
    }
