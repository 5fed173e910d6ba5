-- What the invariant says at one moment, and how a right happening changes the standing of a branch.
use Rattle.std.proofs.Common.{◌≡◌, length, Bool, true, false, ◌||◌, refl, sym, ap, ◌∙◌, subst, arith, ◌⊎◌}
use Rattle.std.specs.Prelude.{if◌then◌else◌, Some}
use mathlib.Core.Logic.{◌⊎◌.inl, ◌⊎◌.inr}
use Rattle.std.proofs.lemmas.Bool.{and_parts, false_from_ne_true, or_cases}
use Rattle.xa_base.specs.declared.call.Call.TheVariants as Calls
use Rattle.xa_base.specs.StateTable.{on, state_of, answer, moved, broken, completed}
use Rattle.xa_base.specs.declared.answer.Answer.TheVariants.{Ret, Page}
use Rattle.xa_model.specs.Trace.{Gtrid, Branch, Line, Kind, Kind.Start, Kind.Join, Kind.End, Kind.Prepare, Kind.Commit, Kind.OnePhase, Kind.Rollback, Kind.Forget, Call, How, Code, Outcome, Happening, Happening.Issued, Happening.Took, Happening.CompletedAlone, Trace, Trace.Then, line_of, Answer}
use Rattle.xa_base.specs.Branch.{branch_eq}
use Rattle.xa_base.specs.declared.state.Standing.{Standing}
use Rattle.xa_base.specs.declared.state.Standing.TheVariants.{Unstarted, Prepared, Completed, Forgotten}
use Rattle.xa_model.specs.Promises.AgreementInvariant.{Starts}
use Rattle.xa_model.specs.Facts.{up, begun, decided_so, handed_over, claimed, live, started, was_told, says_read_only, acknowledges, recorded, had_row, ever, doubt, Change.AddRows, adds_row, is_settled, breaks, taken, next_call, standing, vote, retries}
use Rattle.xa_model.specs.Protocol.{MayBeCalled, Right, RightIssue, RightCall}
use Rattle.xa_model.proofs.Invariant.{Closed, HasBegun, IsAtRest, IsHeuristic, IsOlder, Waits, RowFact, DoubtFact, IsFixed, Inv}
use Rattle.xa_model.proofs.Invariant.Records.{recorded_how}
use Rattle.xa_base.proofs.BranchKeys.{branch_eq-true}
use Rattle.xa_model.proofs.Invariant.Moves.{Move, Move.Stays, Move.Completes, TakenFact, taken_move, broken_move}
use Rattle.xa_model.proofs.Invariant.Grows.{NewBranch, closed_kept, started_kept, started_new}
use Rattle.xa_model.proofs.Invariant.Rows.{adds_row-true}

-- ** at one moment

pub ever_up : (tr : Trace) (g : Gtrid) → Inv tr → up tr ≡ true → ever tr g ≡ true → had_row tr g ≡ true
ever_up tr g inv u e = by_case (or_cases _ _ e)
  where
    by_case : (adds_row (doubt tr) g ≡ true) ⊎ (had_row tr g ≡ true) → had_row tr g ≡ true
    by_case (inl h) = let n = inv.doubt_down u in let a = (adds_row-true (doubt tr) g h).is in absurd (cc)
    by_case (inr h) = h

pub row_fact_ever : (tr : Trace) (g : Gtrid) → Inv tr → ever tr g ≡ true → RowFact tr g
row_fact_ever tr g inv e = by_case (or_cases _ _ e)
  where
    by_case : (adds_row (doubt tr) g ≡ true) ⊎ (had_row tr g ≡ true) → RowFact tr g
    by_case (inl h) =
        let a = adds_row-true (doubt tr) g h in
        let f : DoubtFact tr (AddRows a.added) = subst (λ x. DoubtFact tr x) a.is inv.in_doubt in (f g a.of).0
    by_case (inr h) = inv.rows g h

at_rest_of_heuristic : (how : How) (f : Standing) → IsHeuristic how f → IsAtRest f
at_rest_of_heuristic k (Completed how) h = tt
at_rest_of_heuristic k (Forgotten how) h = tt
at_rest_of_heuristic k _ h = absurd h

pub settled_at_rest : (tr : Trace) (b : Branch) → Inv tr → started tr b ≡ true → is_settled tr b ≡ true → IsAtRest (standing tr b)
settled_at_rest tr b inv s t = by_case (or_cases _ _ t)
  where
    by_told : (was_told tr (says_read_only b) ≡ true) ⊎ (was_told tr (acknowledges b) ≡ true) → IsAtRest (standing tr b)
    by_told (inl h) = subst IsAtRest (sym (inv.voted_read_only b h)) tt
    by_told (inr h) = inv.acknowledged b h s

    by_case : (recorded tr b ≡ true) ⊎ ((was_told tr (says_read_only b) || was_told tr (acknowledges b)) ≡ true) → IsAtRest (standing tr b)
    by_case (inl h) = let k = recorded_how tr b h in at_rest_of_heuristic k.0 _ (inv.heuristic b k.0 k.1 s)
    by_case (inr h) = by_told (or_cases _ _ h)

pub closed_handed : (tr : Trace) (g : Gtrid) → Inv tr → handed_over tr g ≡ true → Closed tr g
closed_handed tr g inv h = record { old = inv.handed_old g h; not_live = false_from_ne_true _ (λ l. grind arith) }

pub closed_decided : (tr : Trace) (o : Outcome) (g : Gtrid) → Inv tr → decided_so o tr g ≡ true → Closed tr g
closed_decided tr Outcome.Commit g inv h = record { old = inv.decided_old Outcome.Commit g h; not_live = false_from_ne_true _ (λ l. grind arith) }
closed_decided tr Outcome.Rollback g inv h = record { old = inv.decided_old Outcome.Rollback g h; not_live = false_from_ne_true _ (λ l. grind arith) }

pub live_begun : (tr : Trace) (g : Gtrid) → live tr g ≡ true → begun tr g ≡ true
live_begun tr g l = let p = and_parts _ _ l in p.0

-- what the start may have found takes no new branch and no decision
pub older_closed : (tr : Trace) (b : Branch) → Inv tr → IsOlder tr b → Closed tr b.gtrid
older_closed tr b inv o = record {
  old = inl (let s = inv.since_start in omega (arith, s, o));
  not_live = false_from_ne_true _ (λ l. let s = inv.begun_since b.gtrid (live_begun tr b.gtrid l) in omega (arith, s, o));
}

pub older_not_live : (tr : Trace) (b : Branch) → Inv tr → IsOlder tr b → live tr b.gtrid ≡ true → ⊥
older_not_live tr b inv o l = let n = (older_closed tr b inv o).not_live in cc

-- nor was it started since
pub older_not_started : (tr : Trace) (b : Branch) → Inv tr → IsOlder tr b → started tr b ≡ true → ⊥
older_not_started tr b inv o s = let k = inv.started_since b s in omega (arith, k, o)

pub begun_or_older : (tr : Trace) (b : Branch) → Inv tr → HasBegun (standing tr b) → (started tr b ≡ true) ⊎ IsOlder tr b
begun_or_older tr b inv h = by_test (started tr b) refl
  where
    by_case : (standing tr b ≡ Unstarted) ⊎ IsOlder tr b → (started tr b ≡ true) ⊎ IsOlder tr b
    by_case (inl u) = absurd (subst HasBegun u h)
    by_case (inr o) = inr o

    by_test : (t : Bool) → started tr b ≡ t → (started tr b ≡ true) ⊎ IsOlder tr b
    by_test true s = inl s
    by_test false s = by_case (inv.unstarted b s)

-- a waiting call on a branch is as its standing allows
pub taken_fact : (tr : Trace) (l : Line) (k : Kind) (b : Branch) → Inv tr → Waits tr l (on k b) → TakenFact tr k b (standing tr b)
taken_fact tr l Start b inv w = let f = inv.waiting l Start b w in (f.is_started, f.unstarted)
taken_fact tr l Join b inv w = tt
taken_fact tr l (End fail) b inv w = tt
taken_fact tr l Prepare b inv w = tt
taken_fact tr l OnePhase b inv w = inv.waiting l OnePhase b w
taken_fact tr l Commit b inv w = inv.waiting l Commit b w
taken_fact tr l Rollback b inv w =
    let f = inv.waiting l Rollback b w in
    let u = inv.waiting_up l (Calls.Rollback b) w in
    (f.closed, λ s e. settled_at_rest tr b inv s (inv.row_left b.gtrid (ever_up tr b.gtrid inv u e) f.no_row b refl s))
taken_fact tr l Forget b inv w = inv.waiting l Forget b w

-- ** the next moment

pub front_waits : (tr : Trace) (l : Line) (c : Call) → next_call tr l ≡ Some c → Waits tr l c
front_waits tr l c h = record { place = length (taken tr l); not_taken = omega arith; is = h }

-- an answer is its code
pub code_of : {x y : Code} → ◌≡◌ {A = Answer} (Ret x) (Ret y) → x ≡ y
code_of e = cc

took_move : (tr : Trace) (b c : Branch) (k : Kind) (a : Code) → c ≡ b → TakenFact tr k c (standing tr c)
    → a ≡ answer k (state_of (standing tr c)) (vote tr c) (retries tr c) → Move tr b (standing tr b) (moved (standing tr b) k a)
took_move tr b c k a e t r =
    let m = taken_move tr c (standing tr c) k (vote tr c) (retries tr c) t in
    let n : Move tr c (standing tr c) (moved (standing tr c) k a) = subst (λ x. Move tr c (standing tr c) (moved (standing tr c) k x)) (sym r) m in
    subst (λ x. Move tr x (standing tr x) (moved (standing tr x) k a)) e n

scripted_move : (tr : Trace) (b : Branch) (how : How) (f : Standing) → f ≡ Prepared → Move tr b f (completed f how)
scripted_move tr b how f e = subst (λ x. Move tr b x (completed x how)) (sym e) (Completes how)

took_or_stays : (tr : Trace) (l : Line) (k : Kind) (c : Branch) (a : Code) (b : Branch) → Inv tr → next_call tr l ≡ Some (on k c)
    → a ≡ answer k (state_of (standing tr c)) (vote tr c) (retries tr c) → (t : Bool) → branch_eq c b ≡ t
    → Move tr b (standing tr b) (if t then moved (standing tr b) k a else standing tr b)
took_or_stays tr l k c a b inv h r true s = took_move tr b c k a (branch_eq-true c b s) (taken_fact tr l k c inv (front_waits tr l (on k c) h)) r
took_or_stays tr l k c a b inv h r false s = Stays (standing tr b)

-- the standing of a branch changes as the moves say
pub step_move : (tr : Trace) (e : Happening) (b : Branch) → Inv tr → Right tr e → Move tr b (standing tr b) (standing (Then tr e) b)
step_move tr (Took l (Calls.Start c false) (Ret a)) b inv r = took_or_stays tr l Start c a b inv r.0 (code_of r.1) (branch_eq c b) refl
step_move tr (Took l (Calls.Start c true) (Ret a)) b inv r = took_or_stays tr l Join c a b inv r.0 (code_of r.1) (branch_eq c b) refl
step_move tr (Took l (Calls.End c fail) (Ret a)) b inv r = took_or_stays tr l (End fail) c a b inv r.0 (code_of r.1) (branch_eq c b) refl
step_move tr (Took l (Calls.Prepare c) (Ret a)) b inv r = took_or_stays tr l Prepare c a b inv r.0 (code_of r.1) (branch_eq c b) refl
step_move tr (Took l (Calls.Commit c false) (Ret a)) b inv r = took_or_stays tr l Commit c a b inv r.0 (code_of r.1) (branch_eq c b) refl
step_move tr (Took l (Calls.Commit c true) (Ret a)) b inv r = took_or_stays tr l OnePhase c a b inv r.0 (code_of r.1) (branch_eq c b) refl
step_move tr (Took l (Calls.Rollback c) (Ret a)) b inv r = took_or_stays tr l Rollback c a b inv r.0 (code_of r.1) (branch_eq c b) refl
step_move tr (Took l (Calls.Forget c) (Ret a)) b inv r = took_or_stays tr l Forget c a b inv r.0 (code_of r.1) (branch_eq c b) refl
step_move tr (CompletedAlone c how) b inv r = by_branch (branch_eq c b) refl
  where
    by_branch : (t : Bool) → branch_eq c b ≡ t → Move tr b (standing tr b) (if t then completed (standing tr b) how else standing tr b)
    by_branch true s = scripted_move tr b how (standing tr b) (ap (standing tr) (sym (branch_eq-true c b s)) ∙ r)
    by_branch false s = Stays (standing tr b)
step_move tr (Took l c (Page names)) b inv r = Stays (standing tr b)
step_move tr (Took l Calls.OpenRm (Ret a)) b inv r = Stays (standing tr b)
step_move tr (Took l Calls.CloseRm (Ret a)) b inv r = Stays (standing tr b)
step_move tr (Took l (Calls.Recover n x y) (Ret a)) b inv r = Stays (standing tr b)
step_move tr e b inv r = by_break (breaks tr e (line_of b))
  where
    by_break : (t : Bool) → Move tr b (standing tr b) (if t then broken (standing tr b) else standing tr b)
    by_break true = broken_move tr b (standing tr b)
    by_break false = Stays (standing tr b)

-- ** transactions that take no new branch

-- what is asked of a call of a kind
pub right_on : (tr : Trace) (l : Line) (k : Kind) (b : Branch) → RightIssue tr l (on k b) → RightCall tr l k b
right_on tr l Start b r = r
right_on tr l Join b r = r
right_on tr l (End fail) b r = r
right_on tr l Prepare b r = r
right_on tr l Commit b r = r
right_on tr l OnePhase b r = r
right_on tr l Rollback b r = r
right_on tr l Forget b r = r

pub starting_live : (tr : Trace) (k : Kind) (b : Branch) → Starts k → MayBeCalled tr k b → live tr b.gtrid ≡ true
starting_live tr Start b s m = m.1.is_live
starting_live tr Join b s m = m.1.is_live
starting_live tr _ b s m = absurd s

starting_unclaimed : (tr : Trace) (k : Kind) (b : Branch) → Starts k → MayBeCalled tr k b → claimed tr b.gtrid ≡ false
starting_unclaimed tr Start b s m = m.1.unclaimed
starting_unclaimed tr Join b s m = m.1.unclaimed
starting_unclaimed tr _ b s m = absurd s

pub started_back : (tr : Trace) (e : Happening) (b : Branch) → Right tr e → live tr b.gtrid ≡ false → started (Then tr e) b ≡ true → started tr b ≡ true
started_back tr e b r n s = by_case (started_new tr e b s)
  where
    by_case : (started tr b ≡ true) ⊎ NewBranch e b → started tr b ≡ true
    by_case (inl h) = h
    by_case (inr h) =
        let q : Right tr (Issued h.0 (on h.1 b)) = subst (Right tr) h.2 r in let lv = starting_live tr h.1 b h.3 (right_on tr h.0 h.1 b q.1).may_be in cc

-- nor does a claimed one
pub started_unclaimed : (tr : Trace) (e : Happening) (b : Branch) → Right tr e → claimed tr b.gtrid ≡ true → started (Then tr e) b ≡ true → started tr b ≡ true
started_unclaimed tr e b r n s = by_case (started_new tr e b s)
  where
    by_case : (started tr b ≡ true) ⊎ NewBranch e b → started tr b ≡ true
    by_case (inl h) = h
    by_case (inr h) =
        let q : Right tr (Issued h.0 (on h.1 b)) = subst (Right tr) h.2 r in
        let u = starting_unclaimed tr h.1 b h.3 (right_on tr h.0 h.1 b q.1).may_be in absurd (cc)

pub fixed_back : (tr : Trace) (e : Happening) (b : Branch) → Right tr e → IsFixed tr b → started (Then tr e) b ≡ true → started tr b ≡ true
fixed_back tr e b r (inl h) s = h
fixed_back tr e b r (inr h) s = started_back tr e b r h.not_live s

pub fixed_kept : (tr : Trace) (e : Happening) (b : Branch) → Right tr e → IsFixed tr b → IsFixed (Then tr e) b
fixed_kept tr e b r (inl h) = inl (started_kept tr e b h)
fixed_kept tr e b r (inr h) = inr (closed_kept tr e b.gtrid r h)
