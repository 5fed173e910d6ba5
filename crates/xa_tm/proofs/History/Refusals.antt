-- The refusals that are read off the book of a right history are those that the history forces.
use Rattle.std.proofs.Common.{◌≡◌, ℕ, ◌+◌, ◌==◌, List, [], ◌∷◌, Bool, true, false, not, ◌&&◌, ◌||◌, Some, is_some, refl, sym, ap, ◌∙◌, arith}
use Rattle.std.specs.Prelude.{if◌then◌else◌}
use Rattle.std.specs.List.{list_any}
use Rattle.xa_base.specs.declared.call.Call.TheVariants as Calls
use Rattle.xa_base.specs.declared.step.Step.TheVariants as Steps
use Rattle.xa_base.specs.Branch.{gtrid_eq, branch_eq}
use Rattle.xa_base.specs.declared.branch.Branch.{Branch}
use Rattle.xa_base.specs.declared.branch.Gtrid.{Gtrid}
use Rattle.xa_base.specs.declared.step.Outcome.TheVariants as Outcome
use Rattle.xa_base.specs.declared.step.Part.TheVariants as Part
use Rattle.xa_base.specs.declared.step.Side.TheVariants as Side
use Rattle.xa_model.specs.Facts.{begun, branches, decided_so, handed_over, claimed, each_of_some, has_row, heuristic_rows, is_older, log, outlived, participants_in, participants_settled, recorded, is_settled, is_settled_lately, started, was_told_lately, acknowledges, all_of, finished, has_unfinished, has_voted, is_shut, is_taken_up, on_line, row_settled}
use Rattle.xa_model.specs.Protocol.{IsRun}
use Rattle.xa_model.specs.Replies.Guards.{refusal_of}
use Rattle.xa_model.specs.Replies.Rules.{must_refuse}
use Rattle.xa_model.specs.Replies.View.{view_of}
use Rattle.xa_model.specs.Replies.Steps.{Step}
use Rattle.xa_model.specs.Trace.{Line, Name.Foreign, Name.Ours, Row, Trace, line_eq, line_of}
use Rattle.xa_model.proofs.AgreementLemmas.Distinct.{branches_listed}
use Rattle.xa_base.proofs.BranchKeys.{gtrid_eq-refl}
use Rattle.xa_log.specs.KeySet.{from_list, items}
use Rattle.xa_tm.specs.Laws.{IsAlone, IsLookedAt}
use Rattle.xa_tm.specs.Book.{book_of, row_in}
use Rattle.xa_tm.specs.Refusing.{at_rest, has_row_in, is_settled_lately_in, is_shut_in, is_taken_up_in, is_unfinished, managers_refusal, outlived_in, refusal_in, row_settled_in, view_in, waits_for_none}
use Rattle.xa_tm.proofs.History.Counting.{count, but, one_less, none_counted, apart, counted_branches, counted_votes}
use Rattle.xa_tm.proofs.History.Members.{set_any, set_each}
use Rattle.xa_tm.proofs.History.RecordsAfter.{has_record_is}
use Rattle.xa_tm.proofs.History.OneMore.{lists_is}
use Rattle.xa_tm.proofs.History.Settling.{counted_settled, settled_is}

-- ** rows and records

pub has_row_is : (tr : Trace) (g : Gtrid) → has_row_in (book_of tr) g ≡ has_row tr g
has_row_is tr g = sym (lists_is (log tr) g)

pub recorded_is : (tr : Trace) (b : Branch) → is_some ((book_of tr).recorded b) ≡ recorded tr b
recorded_is tr b = sym (has_record_is (heuristic_rows tr) b)

pub outlived_is : (tr : Trace) (g : Gtrid) → outlived_in (book_of tr) g ≡ outlived tr g
outlived_is tr g = ap (λ t. is_older tr g && t) (has_row_is tr g)

taken_up_is : (tr : Trace) (g : Gtrid) → is_taken_up_in (book_of tr) g ≡ is_taken_up tr g
taken_up_is tr g = ap (λ t. (decided_so Outcome.Commit tr g || t) || (decided_so Outcome.Rollback tr g || handed_over tr g)) (outlived_is tr g)

shut_is : (tr : Trace) (g : Gtrid) → is_shut_in (book_of tr) g ≡ is_shut tr g
shut_is tr g = ap (λ t. t || claimed tr g) (taken_up_is tr g)

-- ** what is settled

lately_is : (tr : Trace) (b : Branch) → is_settled_lately_in (book_of tr) b ≡ is_settled_lately tr b
lately_is tr b = ap (λ t. t || was_told_lately tr (acknowledges b)) (recorded_is tr b)

waits_is : (tr : Trace) (g : Gtrid) (xs : List Row) → waits_for_none (book_of tr) (row_in xs g) ≡ each_of_some (is_settled_lately tr) (participants_in xs g)
waits_is tr g [] = refl
waits_is tr g (x ∷ xs) = by (gtrid_eq x.gtrid g) (waits_is tr g xs)
  where
    by : (t : Bool) → waits_for_none (book_of tr) (row_in xs g) ≡ each_of_some (is_settled_lately tr) (participants_in xs g)
        → waits_for_none (book_of tr) (if t then Some (from_list x.participants) else row_in xs g)
        ≡ each_of_some (is_settled_lately tr) (if t then x.participants else participants_in xs g)
    by true rest =
        sym (set_each (is_settled_lately_in (book_of tr)) x.participants)
        ∙ ap (λ (p : Branch → Bool). each_of_some p x.participants) (λ i. λ b. lately_is tr b i)
    by false rest = rest

row_settled_is : (tr : Trace) (g : Gtrid) → IsRun tr → row_settled_in (book_of tr) g ≡ row_settled tr g
row_settled_is tr g r = by (begun tr g) refl
  where
    all : begun tr g ≡ true → ((book_of tr).transaction g).unsettled == 0 ≡ all_of g (is_settled tr) (branches tr)
    all e =
        ap (λ n. n == 0) (counted_settled tr g r e)
        ∙ ap (λ (p : Branch → Bool). count (λ b. gtrid_eq b.gtrid g && not (p b)) (branches tr) == 0) (λ i. λ b. sym (settled_is tr b) i)
        ∙ none_counted g (is_settled tr) (branches tr)

    by : (t : Bool) → begun tr g ≡ t
        → (if t then ((book_of tr).transaction g).unsettled == 0 else waits_for_none (book_of tr) (row_in (log tr) g))
        ≡ (if t then all_of g (is_settled tr) (branches tr) else participants_settled tr g)
    by true e = all e
    by false e = waits_is tr g (log tr)

-- ** branches that are the only ones, and those left on a line

only_is : (tr : Trace) (b : Branch) → IsRun tr
    → (started tr b && (((book_of tr).transaction b.gtrid).branches == 1)) ≡ (started tr b && all_of b.gtrid (λ c. branch_eq c b) (branches tr))
only_is tr b r = by (started tr b) refl
  where
    g : Gtrid
    g = b.gtrid

    own : gtrid_eq g g ≡ true
    own = gtrid_eq-refl g

    one : (n m : ℕ) → n + 1 ≡ m → (m == 1) ≡ (n == 0)
    one n m e = grind (arith, e)

    only : started tr b ≡ true → (((book_of tr).transaction g).branches == 1) ≡ all_of g (λ c. branch_eq c b) (branches tr)
    only s = ap (λ n. n == 1) (counted_branches tr g)
        ∙ one (count (but (λ c. gtrid_eq c.gtrid g) b) (branches tr)) (count (λ c. gtrid_eq c.gtrid g) (branches tr))
        (one_less (λ c. gtrid_eq c.gtrid g) b (branches tr) (apart tr r) (branches_listed tr b ∙ s) own)
        ∙ none_counted g (λ c. branch_eq c b) (branches tr)

    by : (t : Bool) → started tr b ≡ t → (t && (((book_of tr).transaction g).branches == 1)) ≡ (t && all_of g (λ c. branch_eq c b) (branches tr))
    by true s = only s
    by false s = refl

votes_is : (tr : Trace) (g : Gtrid) → IsRun tr → (((book_of tr).transaction g).unvoted == 0) ≡ all_of g (has_voted tr) (branches tr)
votes_is tr g r = ap (λ n. n == 0) (counted_votes tr g r) ∙ none_counted g (has_voted tr) (branches tr)

left_is : (tr : Trace) (l : Line) (bs : List Branch) → has_unfinished tr l bs ≡ list_any (is_unfinished (book_of tr) l) bs
left_is tr l [] = refl
left_is tr l (b ∷ bs) = ap (λ t. (line_eq (line_of b) l && (on_line tr b && not (finished tr b))) || t) (left_is tr l bs)

unfinished_is : (tr : Trace) (l : Line) → list_any (is_unfinished (book_of tr) l) (items (book_of tr).known) ≡ has_unfinished tr l (branches tr)
unfinished_is tr l = sym (set_any (is_unfinished (book_of tr) l) (branches tr)) ∙ sym (left_is tr l (branches tr))

-- ** what a refusal looks at

pub view_is : (tr : Trace) → IsRun tr → view_in (book_of tr) ≡ view_of tr
view_is tr r = λ i. record (view_of tr) {
  has_row = λ g. has_row_is tr g i;
  outlived = λ g. outlived_is tr g i;
  row_settled = λ g. row_settled_is tr g r i;
  is_taken_up = λ g. taken_up_is tr g i;
  is_shut = λ g. shut_is tr g i;
  all_voted = λ g. votes_is tr g r i;
  is_only = λ b. only_is tr b r i;
  recorded = λ b. recorded_is tr b i;
  has_unfinished = λ l. unfinished_is tr l i;
}

-- ** the refusal

managers_is : (tr : Trace) (s : Step) → IsLookedAt s → refusal_of (view_of tr) at_rest s ≡ managers_refusal tr s
managers_is tr (Steps.Begin t) i = refl
managers_is tr (Steps.Issue t r Calls.OpenRm) i = refl
managers_is tr (Steps.Issue t r Calls.CloseRm) i = refl
managers_is tr (Steps.Issue t r (Calls.Recover n x y)) i = refl
managers_is tr (Steps.Issue t r (Calls.Start (Ours b) j)) i = refl
managers_is tr (Steps.Issue t r (Calls.End (Ours b) f)) i = refl
managers_is tr (Steps.Issue t r (Calls.Prepare (Ours b))) i = refl
managers_is tr (Steps.Issue t r (Calls.Commit (Ours b) true)) i = refl
managers_is tr (Steps.Issue t r (Calls.Commit (Ours b) false)) i = refl
managers_is tr (Steps.Issue t r (Calls.Rollback (Ours b))) i = refl
managers_is tr (Steps.Issue t r (Calls.Forget (Ours b))) i = refl
managers_is tr (Steps.Issue t r (Calls.Start (Foreign x) j)) i = refl
managers_is tr (Steps.Issue t r (Calls.End (Foreign x) f)) i = refl
managers_is tr (Steps.Issue t r (Calls.Prepare (Foreign x))) i = refl
managers_is tr (Steps.Issue t r (Calls.Commit (Foreign x) o)) i = refl
managers_is tr (Steps.Issue t r (Calls.Rollback (Foreign x))) i = refl
managers_is tr (Steps.Issue t r (Calls.Forget (Foreign x))) i = refl
managers_is tr (Steps.Take t r) i = absurd i
managers_is tr (Steps.Vote r x v) i = absurd i
managers_is tr (Steps.Busy r x n) i = absurd i
managers_is tr (Steps.Heuristic r x how) i = absurd i
managers_is tr (Steps.Crash (Part.Rm r)) i = absurd i
managers_is tr (Steps.Restart (Side.Rm r)) i = absurd i
managers_is tr _ i = refl

pub refusal_is : (tr : Trace) (s : Step) → IsRun tr → IsLookedAt s → refusal_in (book_of tr) s ≡ managers_refusal tr s
refusal_is tr s r i = ap (λ v. refusal_of v at_rest s) (view_is tr r) ∙ managers_is tr s i

-- what the manager alone is asked is refused as the manager's book says
pub alone_is : (tr : Trace) (s : Step) → IsAlone s → must_refuse tr s ≡ managers_refusal tr s
alone_is tr (Steps.Begin t) i = refl
alone_is tr (Steps.Decide g o) i = refl
alone_is tr (Steps.Claim g) i = refl
alone_is tr (Steps.Settle g) i = refl
alone_is tr (Steps.Abandon g) i = refl
alone_is tr (Steps.Done g) i = refl
alone_is tr (Steps.Crash Part.Manager) i = refl
alone_is tr (Steps.Restart Side.Manager) i = refl
alone_is tr s i = absurd i
