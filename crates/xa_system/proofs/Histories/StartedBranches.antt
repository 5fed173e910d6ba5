-- Each branch that was started is on a line that the system has, and each that a script is of is at
-- a resource manager that it has.
use Rattle.std.proofs.Common.{◌≡◌, ◌<◌, Bool, true, false, refl, sym, subst, List, [], ◌∷◌}
use Rattle.std.specs.Prelude.{not, ◌&&◌, ◌||◌, if◌then◌else◌, nat_eq, nat_lt, Option, Some, None}
use Rattle.std.proofs.lemmas.Bool.{and_parts, eqb-true, ltb-true, not-false, or_parts}
use Rattle.xa_base.specs.Branch.{branch_eq}
use Rattle.xa_model.specs.Replies.Allowed.{AllAllowed, Allowed, Allowed.By_rule, Allowed.As_value, Allowed.For_memory, Allowed.For_log, Hears, Hears.Hears_none, Hears.Hears_one, IsValue, Restarts, Restarts.Restarts_as, Takes, Takes.Takes_none, Takes.Takes_one, with_steps}
use Rattle.xa_base.specs.Standing.{is_in_doubt}
use Rattle.xa_model.specs.Facts.{origin, standing, started}
use Rattle.xa_model.specs.Replies.Guards.{is_there}
use Rattle.xa_model.specs.Replies.Rules.{must_refuse}
use Rattle.xa_model.specs.Replies.View.{view_of}
use Rattle.xa_model.specs.Replies.Steps.{Reply, Step, happened, if_ours, log_failed, refused}
use Rattle.xa_model.specs.Trace.{Happening, Happening.Heard, Happening.Issued, Happening.PutOff, Happening.Took, Happening.Voted, Name.Foreign, Name.Ours, Origin, Trace, Trace.From, Trace.Then, line}
use Rattle.xa_base.specs.declared.branch.Branch.{Branch}
use Rattle.xa_base.specs.declared.call.Call.TheVariants as Calls
use Rattle.xa_base.specs.declared.refusal.Refusal.{Refusal}
use Rattle.xa_base.specs.declared.refusal.Refusal.TheVariants as Refusals
use Rattle.xa_base.specs.declared.step.Side.TheVariants as Side
use Rattle.xa_base.specs.declared.step.Step.TheVariants as Steps
use Rattle.xa_base.proofs.BranchKeys.{branch_eq-true}
use Rattle.xa_model.proofs.Replies.Guards.{none_applies}
use Rattle.xa_model.proofs.Replies.Replies.{accepted_ours}

-- the branch's line is one of these
abbrev pub IsWithin : Origin → Branch → Type 0
IsWithin o b = (b.thread < o.threads) × (b.rm < o.rms)

abbrev pub HappensWithin : Origin → Happening → Type 0
HappensWithin o (Issued l (Calls.Start b join)) = IsWithin o b
HappensWithin o (Voted b v) = b.rm < o.rms
HappensWithin o (PutOff b n) = b.rm < o.rms
HappensWithin o e = Unit {0}

-- ** one happening more

there : (t : Bool) (o : Option Refusal) → (if t then o else Some Refusals.Limit) ≡ None → t ≡ true
there true o e = refl
there false o e = absurd (cc)

both : (a b : Bool) → (not a || (true && not b)) ≡ false → (a ≡ true) × (b ≡ true)
both true true e = (refl, refl)
both true false e = absurd (cc)
both false b e = absurd (cc)

start_within : (tr : Trace) (t r : _) (b : Branch) → (nat_lt t (origin tr).threads && nat_lt r (origin tr).rms) ≡ true
    → (not (nat_eq r b.rm) || (true && not (nat_eq t b.thread))) ≡ false → IsWithin (origin tr) b
start_within tr t r b at own =
    let has = and_parts _ _ at in
    let same = both (nat_eq r b.rm) (nat_eq t b.thread) own in (
      subst (λ n. n < (origin tr).threads) (eqb-true t b.thread same.1) (ltb-true t (origin tr).threads has.0),
      subst (λ n. n < (origin tr).rms) (eqb-true r b.rm same.0) (ltb-true r (origin tr).rms has.1),
    )

script_within : (tr : Trace) (r : _) (b : Branch) → nat_lt r (origin tr).rms ≡ true → nat_eq b.rm r ≡ true → b.rm < (origin tr).rms
script_within tr r b at same = subst (λ n. n < (origin tr).rms) (sym (eqb-true b.rm r same)) (ltb-true r (origin tr).rms at)

failed_within : (o : Origin) (s : Step) → HappensWithin o (log_failed s)
failed_within o (Steps.Restart Side.Manager) = tt
failed_within o s = tt

refused_within : (o : Origin) (n : Refusal) (s : Step) → HappensWithin o (refused n s)
refused_within o Refusals.LogFault s = failed_within o s
refused_within o n s = tt

by : (o : Origin) (s : Step) (r v : Reply) → r ≡ v → HappensWithin o (happened s v) → HappensWithin o (happened s r)
by o s r v q h = subst (λ x. HappensWithin o (happened s x)) (sym q) h

takes_within : (o : Origin) (tr : Trace) (t n : _) (r : Reply) → Takes tr (line t n) r → HappensWithin o (happened (Steps.Take t n) r)
takes_within o tr t n r (Takes_one c a h k) = subst (λ x. HappensWithin o (if_ours (λ d. Took (line t n) d a) x)) (sym (accepted_ours c)) tt
takes_within o tr t n r (Takes_none h) = tt

hears_within : (o : Origin) (tr : Trace) (t n : _) (r : Reply) → Hears tr (line t n) r → HappensWithin o (happened (Steps.Hear t n) r)
hears_within o tr t n r (Hears_one c a h) = subst (λ x. HappensWithin o (if_ours (λ d. Heard (line t n) d a) x)) (sym (accepted_ours c)) tt
hears_within o tr t n r (Hears_none h) = tt

restarts_within : (o : Origin) (tr : Trace) (r : Reply) → Restarts tr r → HappensWithin o (happened (Steps.Restart Side.Manager) r)
restarts_within o tr r (Restarts_as i d h a m b c) = tt

value_within : (tr : Trace) (s : Step) (r : Reply) → must_refuse tr s ≡ None → IsValue tr s r → HappensWithin (origin tr) (happened s r)
value_within tr (Steps.Issue t n Calls.OpenRm) r e v = by (origin tr) (Steps.Issue t n Calls.OpenRm) r _ v tt
value_within tr (Steps.Issue t n Calls.CloseRm) r e v = by (origin tr) (Steps.Issue t n Calls.CloseRm) r _ v tt
value_within tr (Steps.Issue t n (Calls.Start (Ours b) false)) r e v =
    let s : Step = Steps.Issue t n (Calls.Start (Ours b) false) in
    by (origin tr) s r _ v (start_within tr t n b (there (is_there (view_of tr) s) _ e) (none_applies tr s Refusals.WrongThread e))
value_within tr (Steps.Issue t n (Calls.Start (Ours b) true)) r e v =
    let s : Step = Steps.Issue t n (Calls.Start (Ours b) true) in
    by (origin tr) s r _ v (start_within tr t n b (there (is_there (view_of tr) s) _ e) (none_applies tr s Refusals.WrongThread e))
value_within tr (Steps.Issue t n (Calls.Start (Foreign x) j)) r e v = by (origin tr) (Steps.Issue t n (Calls.Start (Foreign x) j)) r _ v tt
value_within tr (Steps.Issue t n (Calls.End (Ours b) i)) r e v = by (origin tr) (Steps.Issue t n (Calls.End (Ours b) i)) r _ v tt
value_within tr (Steps.Issue t n (Calls.End (Foreign x) i)) r e v = by (origin tr) (Steps.Issue t n (Calls.End (Foreign x) i)) r _ v tt
value_within tr (Steps.Issue t n (Calls.Prepare (Ours b))) r e v = by (origin tr) (Steps.Issue t n (Calls.Prepare (Ours b))) r _ v tt
value_within tr (Steps.Issue t n (Calls.Prepare (Foreign x))) r e v = by (origin tr) (Steps.Issue t n (Calls.Prepare (Foreign x))) r _ v tt
value_within tr (Steps.Issue t n (Calls.Commit (Ours b) o)) r e v = by (origin tr) (Steps.Issue t n (Calls.Commit (Ours b) o)) r _ v tt
value_within tr (Steps.Issue t n (Calls.Commit (Foreign x) o)) r e v = by (origin tr) (Steps.Issue t n (Calls.Commit (Foreign x) o)) r _ v tt
value_within tr (Steps.Issue t n (Calls.Rollback (Ours b))) r e v = by (origin tr) (Steps.Issue t n (Calls.Rollback (Ours b))) r _ v tt
value_within tr (Steps.Issue t n (Calls.Rollback (Foreign x))) r e v = by (origin tr) (Steps.Issue t n (Calls.Rollback (Foreign x))) r _ v tt
value_within tr (Steps.Issue t n (Calls.Forget (Ours b))) r e v = by (origin tr) (Steps.Issue t n (Calls.Forget (Ours b))) r _ v tt
value_within tr (Steps.Issue t n (Calls.Forget (Foreign x))) r e v = by (origin tr) (Steps.Issue t n (Calls.Forget (Foreign x))) r _ v tt
value_within tr (Steps.Issue t n (Calls.Recover k x y)) r e v = by (origin tr) (Steps.Issue t n (Calls.Recover k x y)) r _ v tt
value_within tr (Steps.Take t n) r e v = takes_within (origin tr) tr t n r v
value_within tr (Steps.Hear t n) r e v = hears_within (origin tr) tr t n r v
value_within tr (Steps.Vote n (Ours b) x) r e v =
    let s : Step = Steps.Vote n (Ours b) x in
    by (origin tr) s r _ v (script_within tr n b (there (is_there (view_of tr) s) _ e)
    (not-false _ (or_parts (not (nat_eq b.rm n)) (is_in_doubt (standing tr b)) (none_applies tr s Refusals.Script e)).0))
value_within tr (Steps.Vote n (Foreign y) x) r e v = by (origin tr) (Steps.Vote n (Foreign y) x) r _ v tt
value_within tr (Steps.Busy n (Ours b) x) r e v =
    let s : Step = Steps.Busy n (Ours b) x in
    by (origin tr) s r _ v (script_within tr n b (there (is_there (view_of tr) s) _ e) (not-false _ (none_applies tr s Refusals.Script e)))
value_within tr (Steps.Busy n (Foreign y) x) r e v = by (origin tr) (Steps.Busy n (Foreign y) x) r _ v tt
value_within tr (Steps.Heuristic n (Ours b) how) r e v = by (origin tr) (Steps.Heuristic n (Ours b) how) r _ v tt
value_within tr (Steps.Heuristic n (Foreign y) how) r e v = by (origin tr) (Steps.Heuristic n (Foreign y) how) r _ v tt
value_within tr (Steps.Restart (Side.Rm n)) r e v = by (origin tr) (Steps.Restart (Side.Rm n)) r _ v tt
value_within tr (Steps.Restart Side.Manager) r e v = restarts_within (origin tr) tr r v
value_within tr s r e v = by (origin tr) s r _ v tt

pub allowed_within : (tr : Trace) (s : Step) (r : Reply) → Allowed tr s r → HappensWithin (origin tr) (happened s r)
allowed_within tr s r (By_rule n e q) = by (origin tr) s r _ q (refused_within (origin tr) n s)
allowed_within tr s r (As_value e v) = value_within tr s r e v
allowed_within tr s r (For_memory e m q) = by (origin tr) s r _ q tt
allowed_within tr s r (For_log e u q) = by (origin tr) s r _ q (failed_within (origin tr) s)

-- ** histories

abbrev AllWithin : Trace → Type 0
AllWithin tr = (b : Branch) → started tr b ≡ true → IsWithin (origin tr) b

within_then : (tr : Trace) (e : Happening) → HappensWithin (origin tr) e → AllWithin tr → AllWithin (Then tr e)
within_then tr (Issued l (Calls.Start c join)) h all b is = by_case (branch_eq c b) refl is
  where
    by_case : (t : Bool) → branch_eq c b ≡ t → (t || started tr b) ≡ true → IsWithin (origin tr) b
    by_case true same s = subst (IsWithin (origin tr)) (branch_eq-true c b same) h
    by_case false apart s = all b s
within_then tr e h all b is = all b is

pub all_within : (tr : Trace) (xs : List (Step × Reply)) → AllAllowed tr xs → AllWithin tr → AllWithin (with_steps tr xs)
all_within tr [] d all = all
all_within tr (x ∷ xs) d all =
    all_within (Then tr (happened x.0 x.1)) xs d.1 (within_then tr (happened x.0 x.1) (allowed_within tr x.0 x.1 d.0) all)

pub none_started : (o : Origin) → AllWithin (From o)
none_started o b is = absurd (cc)
