-- A demanded reply is a right happening.
use Rattle.std.proofs.Common.{◌≡◌, ℕ, List, [], ◌∷◌, Bool, true, false, not, ◌&&◌, ◌||◌, refl, sym, ap, ◌∙◌, subst, ◌⊎◌}
use Rattle.std.specs.Prelude.{if◌then◌else◌, Some, None}
use mathlib.Core.Logic.{◌⊎◌.inl, ◌⊎◌.inr}
use Rattle.std.proofs.lemmas.Bool.{and_parts, eqb-true, not-false, or_cases, or_parts}
use Rattle.xa_base.specs.Branch.{gtrid_eq, branch_eq}
use Rattle.xa_base.specs.Call.{map_call}
use Rattle.xa_base.specs.Standing.{is_prepared}
use Rattle.xa_base.specs.declared.state.Standing.{Standing}
use Rattle.xa_base.specs.declared.state.Standing.TheVariants.{Prepared}
use Rattle.xa_base.specs.declared.step.Side.TheVariants as Side
use Rattle.xa_model.specs.Replies.Allowed.{Takes, Takes.Takes_one, Takes.Takes_none, Hears, Hears.Hears_one, Hears.Hears_none, Restarts, Restarts.Restarts_as, IsValue, NeedsLog, Allowed, Allowed.By_rule, Allowed.As_value, Allowed.For_memory, Allowed.For_log, with_steps, AllAllowed}
use Rattle.xa_model.specs.Facts.{branches, outlived, participants_settled, decided_so, up, begun, live, started, is_settled, all_of, has_voted, is_closed, is_taken_up, is_shut}
use Rattle.xa_model.specs.Protocol.{IsKnown, IsRowSettled, HasVoted, MayBeCalled, IsOpen, RightCall, IsOnOwnThread, RightClaim, RightDecision, RightDone, Right, AllRight}
use Rattle.xa_model.specs.Replies.Guards.{is_off_line}
use Rattle.xa_model.specs.Replies.Rules.{applies, must_refuse}
use Rattle.xa_base.specs.declared.reply.Reply.TheVariants as Replies
use Rattle.xa_base.specs.declared.step.Step.TheVariants as Steps
use Rattle.xa_model.specs.Replies.Steps.{Step, Refusal, Reply, accepted, if_ours, happened}
use Rattle.xa_base.specs.declared.call.Call as Called
use Rattle.xa_base.specs.declared.call.Call.TheVariants as Calls
use Rattle.xa_base.specs.StateTable.{on}
use Rattle.xa_model.specs.Trace.{Gtrid, Branch, Call, Name, Name.Ours, Name.Foreign, Kind, Kind.Start, Kind.Join, Kind.End, Kind.Prepare, Kind.Commit, Kind.OnePhase, Kind.Rollback, Kind.Forget, Outcome, Happening, Happening.Issued, Trace, Trace.From, Trace.Then, line}
use Rattle.xa_base.proofs.BranchKeys.{branch_eq-true, gtrid_eq-refl}
use Rattle.xa_model.proofs.RecoveryLemmas.Pages.{right_is_sound}
use Rattle.xa_model.proofs.Replies.Guards.{IsForced, forced, none_applies}

-- ** tests

abbrev pub InBranches : List Branch → Branch → Type 0
InBranches [] b = ⊥
InBranches (x ∷ xs) b = (x ≡ b) ⊎ InBranches xs b

pub is_up : (tr : Trace) (s : Step) → must_refuse tr s ≡ None → applies tr s Refusal.ManagerDown ≡ not (up tr) → up tr ≡ true
is_up tr s e asks = not-false (up tr) (sym asks ∙ none_applies tr s Refusal.ManagerDown e)

pub is_live : (tr : Trace) (g : Gtrid) → begun tr g ≡ true → is_taken_up tr g ≡ false → live tr g ≡ true
is_live tr g b n = by_tests (begun tr g) (decided_so Outcome.Commit tr g) (outlived tr g) _ b n
  where
    by_tests : (s c o t : Bool) → s ≡ true → ((c || o) || t) ≡ false → (s && not (c || t)) ≡ true
    by_tests true false false false b n = refl
    by_tests true false false true b n = cc
    by_tests true false true t b n = cc
    by_tests true true o t b n = cc
    by_tests false c o t b n = cc

pub is_open : (tr : Trace) (g : Gtrid) → begun tr g ≡ true → is_shut tr g ≡ false → IsOpen tr g
is_open tr g b n = let p = or_parts _ _ n in record { is_live = is_live tr g b p.0; unclaimed = p.1 }

pub voted_of : (tr : Trace) (b : Branch) → has_voted tr b ≡ true → HasVoted tr b
voted_of tr b h = or_cases _ _ h

pub all_of_step : (g : Gtrid) (test : Branch → Bool) (x b : Branch) (rest : Bool) → x ≡ b → b.gtrid ≡ g
    → ((not (gtrid_eq x.gtrid g) || test x) && rest) ≡ true → test b ≡ true
all_of_step g test x b rest e q h =
    by_test (not (gtrid_eq x.gtrid g)) (test x) (and_parts _ _ h).0
    (ap (λ y. not (gtrid_eq y.gtrid g)) e ∙ (ap (λ y. not (gtrid_eq y g)) q ∙ ap not (gtrid_eq-refl g))) (ap test e)
  where
    by_test : (s t : Bool) → (s || t) ≡ true → s ≡ false → t ≡ test b → test b ≡ true
    by_test true t h n k = cc
    by_test false t h n k = sym k ∙ h

pub all_of-started : (tr : Trace) (g : Gtrid) (test : Branch → Bool) (bs : List Branch) (b : Branch) → all_of g test bs ≡ true
    → InBranches bs b → b.gtrid ≡ g → test b ≡ true
all_of-started tr g test [] b h i q = absurd i
all_of-started tr g test (x ∷ bs) b h (inl e) q = all_of_step g test x b _ e q h
all_of-started tr g test (x ∷ bs) b h (inr i) q = all_of-started tr g test bs b (and_parts _ _ h).1 i q

pub started_in : (tr : Trace) (b : Branch) → started tr b ≡ true → InBranches (branches tr) b
started_in (From o) b s = absurd (cc)
started_in (Then tr (Issued l (Calls.Start c false))) b s = by_case (or_cases _ _ s) (λ k. started_in tr b k)
  where
    by_case : (branch_eq c b ≡ true) ⊎ (started tr b ≡ true) → (started tr b ≡ true → InBranches (branches tr) b) → (c ≡ b) ⊎ InBranches (branches tr) b
    by_case (inl h) f = inl (branch_eq-true c b h)
    by_case (inr h) f = inr (f h)
started_in (Then tr (Issued l (Calls.Start c true))) b s = by_case (or_cases _ _ s) (λ k. started_in tr b k)
  where
    by_case : (branch_eq c b ≡ true) ⊎ (started tr b ≡ true) → (started tr b ≡ true → InBranches (branches tr) b) → (c ≡ b) ⊎ InBranches (branches tr) b
    by_case (inl h) f = inl (branch_eq-true c b h)
    by_case (inr h) f = inr (f h)
started_in (Then tr _) b s = started_in tr b s

pub each_started : (tr : Trace) (g : Gtrid) (test : Branch → Bool) → not (all_of g test (branches tr)) ≡ false → (b : Branch)
    → b.gtrid ≡ g → started tr b ≡ true → test b ≡ true
each_started tr g test h b q s = all_of-started tr g test (branches tr) b (not-false _ h) (started_in tr b s) q

pub prepared_of : (f : Standing) → not (is_prepared f) ≡ false → f ≡ Prepared
prepared_of Prepared h = refl
prepared_of _ h = cc

-- ** steps that no rule refuses

-- no refusal applies to a call of this kind
abbrev Passes : Trace → (thread rm : ℕ) → Kind → Branch → Type 0
Passes tr t n k b = (m : Refusal) → applies tr (Steps.Issue t n (on k (Ours b))) m ≡ false

is_known : (tr : Trace) (t n : ℕ) (k : Kind) (b : Branch) → Passes tr t n k b → IsKnown tr k b.gtrid
is_known tr t n Commit b p = not-false _ (p Refusal.UnknownTransaction)
is_known tr t n _ b p = not-false _ (p Refusal.UnknownTransaction)

-- the line is the branch's own
on_own_line : (t n : ℕ) (b : Branch) → is_off_line t n b ≡ false → (n ≡ b.rm) × (t ≡ b.thread)
on_own_line t n b e = let p = or_parts _ _ e in (eqb-true _ _ (not-false _ p.0), eqb-true _ _ (not-false _ p.1))

own_line : (tr : Trace) (t n : ℕ) (k : Kind) (b : Branch) → Passes tr t n k b → (n ≡ b.rm) × IsOnOwnThread k (line t n) b
own_line tr t n Commit b p = (eqb-true _ _ (not-false _ (p Refusal.WrongThread)), tt)
own_line tr t n Rollback b p = (eqb-true _ _ (not-false _ (p Refusal.WrongThread)), tt)
own_line tr t n Forget b p = (eqb-true _ _ (not-false _ (p Refusal.WrongThread)), tt)
own_line tr t n _ b p = on_own_line t n b (p Refusal.WrongThread)

may_be_called : (tr : Trace) (t n : ℕ) (k : Kind) (b : Branch) → Passes tr t n k b → IsKnown tr k b.gtrid → MayBeCalled tr k b
may_be_called tr t n Start b p h = (p Refusal.AlreadyStarted, is_open tr b.gtrid h (p Refusal.Decided))
may_be_called tr t n Join b p h = (p Refusal.AlreadyStarted, is_open tr b.gtrid h (p Refusal.Decided))
may_be_called tr t n (End fail) b p h = tt
may_be_called tr t n Prepare b p h = is_open tr b.gtrid h (p Refusal.Decided)
may_be_called tr t n OnePhase b p h =
    let only = and_parts _ _ (not-false _ (p Refusal.Votes)) in (
      is_open tr b.gtrid h (p Refusal.Decided),
      (only.0, λ c q s. branch_eq-true c b (all_of-started tr b.gtrid (λ d. branch_eq d b) (branches tr) c only.1 (started_in tr c s) q)),
    )
may_be_called tr t n Commit b p h = not-false _ (p Refusal.NotDecided)
may_be_called tr t n Rollback b p h = or_cases _ _ (not-false _ (p Refusal.NotDecided))
may_be_called tr t n Forget b p h = not-false _ (p Refusal.NotDecided)

pub right_call : (tr : Trace) (t n : ℕ) (k : Kind) (b : Branch) → must_refuse tr (Steps.Issue t n (on k (Ours b))) ≡ None → RightCall tr (line t n) k b
right_call tr t n k b e =
    let p : Passes tr t n k b = λ m. none_applies tr (Steps.Issue t n (on k (Ours b))) m e in
    let h = is_known tr t n k b p in
    let own = own_line tr t n k b p in
    record { known = h; own_rm = own.0; own_thread = own.1; may_be = may_be_called tr t n k b p h }

-- a call that waits
issue_right : (tr : Trace) (t n : ℕ) (a : Called.Call Name) → must_refuse tr (Steps.Issue t n a) ≡ None
    → Right tr (happened (Steps.Issue t n a) Replies.Issued)
issue_right tr t n a e = by_call a e (is_up tr (Steps.Issue t n a) e refl) (none_applies tr (Steps.Issue t n a) Refusal.Closed e)
  where
    by_call : (a : Called.Call Name) → must_refuse tr (Steps.Issue t n a) ≡ None → up tr ≡ true → is_closed tr (line t n) ≡ false
        → Right tr (happened (Steps.Issue t n a) Replies.Issued)
    by_call (Calls.Start (Ours b) false) e u c = (u, right_call tr t n Start b e, c)
    by_call (Calls.Start (Ours b) true) e u c = (u, right_call tr t n Join b e, c)
    by_call (Calls.End (Ours b) fail) e u c = (u, right_call tr t n (End fail) b e, c)
    by_call (Calls.Prepare (Ours b)) e u c = (u, right_call tr t n Prepare b e, c)
    by_call (Calls.Commit (Ours b) false) e u c = (u, right_call tr t n Commit b e, c)
    by_call (Calls.Commit (Ours b) true) e u c = (u, right_call tr t n OnePhase b e, c)
    by_call (Calls.Rollback (Ours b)) e u c = (u, right_call tr t n Rollback b e, c)
    by_call (Calls.Forget (Ours b)) e u c = (u, right_call tr t n Forget b e, c)
    by_call (Calls.Start (Foreign x) join) e u c = tt
    by_call (Calls.End (Foreign x) fail) e u c = tt
    by_call (Calls.Prepare (Foreign x)) e u c = tt
    by_call (Calls.Commit (Foreign x) one_phase) e u c = tt
    by_call (Calls.Rollback (Foreign x)) e u c = tt
    by_call (Calls.Forget (Foreign x)) e u c = tt
    by_call Calls.OpenRm e u c = (u, tt, c)
    by_call Calls.CloseRm e u c = (u, tt, c)
    by_call (Calls.Recover k x y) e u c = (u, tt, c)

pub right_decision : (tr : Trace) (g : Gtrid) (o : Outcome) → must_refuse tr (Steps.Decide g o) ≡ None → RightDecision tr g o
right_decision tr g o e = record {
  is_up = is_up tr (Steps.Decide g o) e refl;
  is_live =
      is_live tr g (not-false _ (none_applies tr (Steps.Decide g o) Refusal.UnknownTransaction e))
      (or_parts _ _ (none_applies tr (Steps.Decide g o) Refusal.Decided e)).0;
  votes =
      λ q. inl (λ b k s. voted_of tr b
      (each_started tr g (has_voted tr)
      (none_applies tr (Steps.Decide g Outcome.Commit) Refusal.Votes (subst (λ x. must_refuse tr (Steps.Decide g x) ≡ None) q e)) b k s));
}

pub right_claim : (tr : Trace) (g : Gtrid) → must_refuse tr (Steps.Claim g) ≡ None → RightClaim tr g
right_claim tr g e = record {
  is_up = is_up tr (Steps.Claim g) e refl;
  is_live =
      is_live tr g (not-false _ (none_applies tr (Steps.Claim g) Refusal.UnknownTransaction e))
      (or_parts _ _ (none_applies tr (Steps.Claim g) Refusal.Decided e)).0;
  votes = λ b k s. voted_of tr b (each_started tr g (has_voted tr) (none_applies tr (Steps.Claim g) Refusal.Votes e) b k s);
}

pub right_settle : (tr : Trace) (g : Gtrid) → must_refuse tr (Steps.Settle g) ≡ None → RightDecision tr g Outcome.Commit
right_settle tr g e =
    let l = is_live tr g (not-false _ (none_applies tr (Steps.Settle g) Refusal.UnknownTransaction e)) (none_applies tr (Steps.Settle g) Refusal.Decided e) in
    record {
      is_up = is_up tr (Steps.Settle g) e refl;
      is_live = l;
      votes = λ q. inr (not-false _ (none_applies tr (Steps.Settle g) Refusal.NotDecided e));
    }

pub right_abandon : (tr : Trace) (g : Gtrid) → must_refuse tr (Steps.Abandon g) ≡ None → RightDecision tr g Outcome.Rollback
right_abandon tr g e =
    let l = is_live tr g (not-false _ (none_applies tr (Steps.Abandon g) Refusal.UnknownTransaction e)) (none_applies tr (Steps.Abandon g) Refusal.Decided e) in
    record { is_up = is_up tr (Steps.Abandon g) e refl; is_live = l; votes = λ q. absurd (cc) }

pub right_done : (tr : Trace) (g : Gtrid) → must_refuse tr (Steps.Done g) ≡ None → RightDone tr g
right_done tr g e = record {
  is_up = is_up tr (Steps.Done g) e refl;
  has = not-false _ (none_applies tr (Steps.Done g) Refusal.NotDecided e);
  is_settled = by_begun (begun tr g) refl (none_applies tr (Steps.Done g) Refusal.UnknownTransaction e) (none_applies tr (Steps.Done g) Refusal.Busy e);
}
  where
    by_begun : (t : Bool) → begun tr g ≡ t → not (t || outlived tr g) ≡ false
        → not (if t then all_of g (is_settled tr) (branches tr) else participants_settled tr g) ≡ false → IsRowSettled tr g
    by_begun true q u h = inl (q, λ b k s. each_started tr g (is_settled tr) h b k s)
    by_begun false q u h = inr (not-false _ u, not-false _ h)

-- ** replies

pub by : (tr : Trace) (s : Step) (r v : Reply) → r ≡ v → Right tr (happened s v) → Right tr (happened s r)
by tr s r v q h = subst (λ x. Right tr (happened s x)) (sym q) h

-- a call on a branch of this manager is the one that was asked for
pub accepted_ours : (c : Call) → accepted (map_call Ours c) ≡ Some c
accepted_ours Calls.OpenRm = refl
accepted_ours _ = refl

pub takes_right : (tr : Trace) (t n : ℕ) (r : Reply) → Takes tr (line t n) r → Right tr (happened (Steps.Take t n) r)
takes_right tr t n r (Takes_one c a h k) =
    subst (λ o. Right tr (if_ours (λ d. Happening.Took (line t n) d a) o)) (sym (accepted_ours c)) (h, right_is_sound tr (line t n) c a k)
takes_right tr t n r (Takes_none h) = tt

pub hears_right : (tr : Trace) (t n : ℕ) (r : Reply) → up tr ≡ true → Hears tr (line t n) r → Right tr (happened (Steps.Hear t n) r)
hears_right tr t n r u (Hears_one c a h) = subst (λ o. Right tr (if_ours (λ d. Happening.Heard (line t n) d a) o)) (sym (accepted_ours c)) (u, h)
hears_right tr t n r u (Hears_none h) = tt

pub restarts_right : (tr : Trace) (r : Reply) → up tr ≡ false → Restarts tr r → Right tr (happened (Steps.Restart Side.Manager) r)
restarts_right tr r u (Restarts_as i d h a m b c) = (u, a, b, c)

pub value_right : (tr : Trace) (s : Step) (r : Reply) → must_refuse tr s ≡ None → IsValue tr s r → Right tr (happened s r)
value_right tr (Steps.Begin t) r e v = by tr (Steps.Begin t) r _ v (is_up tr (Steps.Begin t) e refl, refl, refl)
value_right tr (Steps.Issue t n a) r e v = by tr (Steps.Issue t n a) r _ v (issue_right tr t n a e)
value_right tr (Steps.Take t n) r e v = takes_right tr t n r v
value_right tr (Steps.Hear t n) r e v = hears_right tr t n r (is_up tr (Steps.Hear t n) e refl) v
value_right tr (Steps.Vote n (Ours b) x) r e v = by tr (Steps.Vote n (Ours b) x) r _ v tt
value_right tr (Steps.Vote n (Foreign y) x) r e v = by tr (Steps.Vote n (Foreign y) x) r _ v tt
value_right tr (Steps.Busy n (Ours b) x) r e v = by tr (Steps.Busy n (Ours b) x) r _ v tt
value_right tr (Steps.Busy n (Foreign y) x) r e v = by tr (Steps.Busy n (Foreign y) x) r _ v tt
value_right tr (Steps.Heuristic n (Ours b) how) r e v =
    by tr (Steps.Heuristic n (Ours b) how) r _ v (prepared_of _ (or_parts _ _ (none_applies tr (Steps.Heuristic n (Ours b) how) Refusal.Script e)).1)
value_right tr (Steps.Heuristic n (Foreign y) how) r e v = by tr (Steps.Heuristic n (Foreign y) how) r _ v tt
value_right tr (Steps.Decide g o) r e v = by tr (Steps.Decide g o) r _ v (right_decision tr g o e)
value_right tr (Steps.Claim g) r e v = by tr (Steps.Claim g) r _ v (right_claim tr g e)
value_right tr (Steps.Settle g) r e v = by tr (Steps.Settle g) r _ v (right_settle tr g e)
value_right tr (Steps.Abandon g) r e v = by tr (Steps.Abandon g) r _ v (right_abandon tr g e)
value_right tr (Steps.ResolveOpen n) r e v =
    by tr (Steps.ResolveOpen n) r _ v (is_up tr (Steps.ResolveOpen n) e refl, none_applies tr (Steps.ResolveOpen n) Refusal.Closed e)
value_right tr (Steps.Recover n k x y) r e v =
    by tr (Steps.Recover n k x y) r _ v (is_up tr (Steps.Recover n k x y) e refl, tt, none_applies tr (Steps.Recover n k x y) Refusal.Closed e)
value_right tr (Steps.Resolve n) r e v = by tr (Steps.Resolve n) r _ v (is_up tr (Steps.Resolve n) e refl, none_applies tr (Steps.Resolve n) Refusal.Closed e)
value_right tr (Steps.Done g) r e v = by tr (Steps.Done g) r _ v (right_done tr g e)
value_right tr (Steps.Crash p) r e v = by tr (Steps.Crash p) r _ v tt
value_right tr (Steps.Restart (Side.Rm n)) r e v = by tr (Steps.Restart (Side.Rm n)) r _ v tt
value_right tr (Steps.Restart Side.Manager) r e v = restarts_right tr r (none_applies tr (Steps.Restart Side.Manager) Refusal.Busy e) v

pub fault_right : (tr : Trace) (s : Step) → must_refuse tr s ≡ None → NeedsLog tr s → Right tr (happened s (Replies.Refused Refusal.LogFault))
fault_right tr (Steps.Decide g Outcome.Commit) e u = ((right_decision tr g Outcome.Commit e, u), refl, tt)
fault_right tr (Steps.Settle g) e u = ((right_settle tr g e, u), refl, tt)
fault_right tr (Steps.ResolveOpen n) e u = is_up tr (Steps.ResolveOpen n) e refl
fault_right tr (Steps.Hear t n) e u = is_up tr (Steps.Hear t n) e refl
fault_right tr (Steps.Done g) e u = (right_done tr g e, refl, tt)
fault_right tr (Steps.Resolve n) e u = is_up tr (Steps.Resolve n) e refl
fault_right tr (Steps.Restart Side.Manager) e u = none_applies tr (Steps.Restart Side.Manager) Refusal.Busy e
fault_right tr _ e u = absurd u

-- a refusal that is forced comes to nothing
pub rule_right : (tr : Trace) (s : Step) (n : Refusal) → IsForced n → Right tr (happened s (Replies.Refused n))
rule_right tr s Refusal.LogFault f = absurd f
rule_right tr s _ f = tt

pub allowed_right : (tr : Trace) (s : Step) (r : Reply) → Allowed tr s r → Right tr (happened s r)
allowed_right tr s r (By_rule n e q) = by tr s r _ q (rule_right tr s n (forced tr s n e))
allowed_right tr s r (As_value e v) = value_right tr s r e v
allowed_right tr s r (For_memory e m q) = by tr s r _ q tt
allowed_right tr s r (For_log e u q) = by tr s r _ q (fault_right tr s e u)

-- ** a whole history

pub all_right : (tr : Trace) (xs : List (Step × Reply)) → AllRight tr → AllAllowed tr xs → AllRight (with_steps tr xs)
all_right tr [] r d = r
all_right tr (x ∷ xs) r d = all_right (Then tr (happened x.0 x.1)) xs (r, allowed_right tr x.0 x.1 d.0) d.1
