-- The branches that a step of a system names have numbers that fit.
use Rattle.std.proofs.Common.{◌≡◌, ℕ, refl, sym, subst}
use Rattle.std.specs.Prelude.{nat_eq, None, IfSome}
use Rattle.std.proofs.lemmas.Bool.{eqb-true, not-false}
use Rattle.xa_base.specs.Call.{xid_in, map_call}
use Rattle.xa_base.specs.Branch.{IsBranch}
use Rattle.xa_model.specs.Replies.Allowed.{Allowed, Allowed.By_rule, Allowed.As_value, Allowed.For_memory, Allowed.For_log, Hears, Hears.Hears_none, Hears.Hears_one, IsValue, Restarts, Restarts.Restarts_as, Takes, Takes.Takes_none, Takes.Takes_one}
use Rattle.xa_model.specs.Replies.History.{name_of, step_of}
use Rattle.xa_model.specs.Replies.ReadBack.{CallHasXid, StepHasXids}
use Rattle.xa_model.specs.Replies.Rules.{must_refuse}
use Rattle.xa_model.specs.Replies.Steps.{Reply, Step, happened, log_failed, refused, if_ours}
use Rattle.xa_model.specs.Trace.{Happening, Happening.Heard, Happening.Issued, Happening.PutOff, Happening.Took, Happening.Voted, Name, Name.Foreign, Name.Ours, Trace, line}
use Rattle.xa_base.specs.Xid.{IsXid, Xid}
use Rattle.xa_base.specs.declared.call.Call as Asking
use Rattle.xa_base.specs.declared.call.Call.TheVariants as Calls
use Rattle.xa_base.specs.declared.refusal.Refusal.{Refusal}
use Rattle.xa_base.specs.declared.refusal.Refusal.TheVariants as Refusals
use Rattle.xa_base.specs.declared.step.Side.TheVariants as Side
use Rattle.xa_base.specs.declared.step.Step as Given
use Rattle.xa_base.specs.declared.step.Step.TheVariants as Steps
use Rattle.xa_model.proofs.Replies.Guards.{none_applies}
use Rattle.xa_model.proofs.Replies.Replies.{accepted_ours}
use Rattle.xa_system.proofs.Reading.{named_fits}

-- a name of a branch has numbers that fit
abbrev NameFits : Name → Type 0
NameFits (Ours b) = IsBranch b
NameFits (Foreign x) = Unit {0}

-- so has a call on one, and a script of one
abbrev StepFits : Step → Type 0
StepFits (Steps.Issue t r c) = IfSome (xid_in c) NameFits
StepFits (Steps.Vote r x v) = NameFits x
StepFits (Steps.Busy r x n) = NameFits x
StepFits s = Unit {0}

name_fits : (x : Xid) → IsXid x → NameFits (name_of x)
name_fits x h = by_name (name_of x) refl
  where
    by_name : (n : Name) → name_of x ≡ n → NameFits n
    by_name (Ours b) e = named_fits x b h e
    by_name (Foreign y) e = tt

call_fits : (t r : ℕ) (call : Asking.Call Xid) → CallHasXid call → StepFits (Steps.Issue t r (map_call name_of call))
call_fits t r Calls.OpenRm h = tt
call_fits t r Calls.CloseRm h = tt
call_fits t r (Calls.Start x join) h = name_fits x h
call_fits t r (Calls.End x fail) h = name_fits x h
call_fits t r (Calls.Prepare x) h = name_fits x h
call_fits t r (Calls.Commit x one_phase) h = name_fits x h
call_fits t r (Calls.Rollback x) h = name_fits x h
call_fits t r (Calls.Forget x) h = name_fits x h
call_fits t r (Calls.Recover count start end) h = tt

pub step_fits : (s : Given.Step Xid) → StepHasXids s → StepFits (step_of s)
step_fits (Steps.Issue t r call) h = call_fits t r call h
step_fits (Steps.Vote r x v) h = name_fits x h
step_fits (Steps.Busy r x n) h = name_fits x h
step_fits s h = tt

-- what happens fits, and starts no scan on another thread's line
abbrev pub HappensFit : Happening → Type 0
HappensFit (Issued l (Calls.Recover count start end)) = l.thread ≡ 0
HappensFit (Issued l c) = IfSome (xid_in c) IsBranch
HappensFit (Voted b v) = IsBranch b
HappensFit (PutOff b n) = IsBranch b
HappensFit e = Unit {0}

failed_fits : (s : Step) → HappensFit (log_failed s)
failed_fits (Steps.Restart Side.Manager) = tt
failed_fits s = tt

refused_fits : (n : Refusal) (s : Step) → HappensFit (refused n s)
refused_fits Refusals.LogFault s = failed_fits s
refused_fits n s = tt

by : (s : Step) (r v : Reply) → r ≡ v → HappensFit (happened s v) → HappensFit (happened s r)
by s r v q h = subst (λ x. HappensFit (happened s x)) (sym q) h

takes_fits : (tr : Trace) (t n : ℕ) (r : Reply) → Takes tr (line t n) r → HappensFit (happened (Steps.Take t n) r)
takes_fits tr t n r (Takes_one c a h k) = subst (λ o. HappensFit (if_ours (λ d. Took (line t n) d a) o)) (sym (accepted_ours c)) tt
takes_fits tr t n r (Takes_none h) = tt

hears_fits : (tr : Trace) (t n : ℕ) (r : Reply) → Hears tr (line t n) r → HappensFit (happened (Steps.Hear t n) r)
hears_fits tr t n r (Hears_one c a h) = subst (λ o. HappensFit (if_ours (λ d. Heard (line t n) d a) o)) (sym (accepted_ours c)) tt
hears_fits tr t n r (Hears_none h) = tt

restarts_fits : (tr : Trace) (r : Reply) → Restarts tr r → HappensFit (happened (Steps.Restart Side.Manager) r)
restarts_fits tr r (Restarts_as i d h a m b c) = tt

value_fits : (tr : Trace) (s : Step) (r : Reply) → StepFits s → must_refuse tr s ≡ None → IsValue tr s r → HappensFit (happened s r)
value_fits tr (Steps.Begin t) r f e v = by (Steps.Begin t) r _ v tt
value_fits tr (Steps.Issue t n Calls.OpenRm) r f e v = by (Steps.Issue t n Calls.OpenRm) r _ v tt
value_fits tr (Steps.Issue t n Calls.CloseRm) r f e v = by (Steps.Issue t n Calls.CloseRm) r _ v tt
value_fits tr (Steps.Issue t n (Calls.Start (Ours b) j)) r f e v = by (Steps.Issue t n (Calls.Start (Ours b) j)) r _ v f
value_fits tr (Steps.Issue t n (Calls.Start (Foreign x) j)) r f e v = by (Steps.Issue t n (Calls.Start (Foreign x) j)) r _ v tt
value_fits tr (Steps.Issue t n (Calls.End (Ours b) i)) r f e v = by (Steps.Issue t n (Calls.End (Ours b) i)) r _ v f
value_fits tr (Steps.Issue t n (Calls.End (Foreign x) i)) r f e v = by (Steps.Issue t n (Calls.End (Foreign x) i)) r _ v tt
value_fits tr (Steps.Issue t n (Calls.Prepare (Ours b))) r f e v = by (Steps.Issue t n (Calls.Prepare (Ours b))) r _ v f
value_fits tr (Steps.Issue t n (Calls.Prepare (Foreign x))) r f e v = by (Steps.Issue t n (Calls.Prepare (Foreign x))) r _ v tt
value_fits tr (Steps.Issue t n (Calls.Commit (Ours b) o)) r f e v = by (Steps.Issue t n (Calls.Commit (Ours b) o)) r _ v f
value_fits tr (Steps.Issue t n (Calls.Commit (Foreign x) o)) r f e v = by (Steps.Issue t n (Calls.Commit (Foreign x) o)) r _ v tt
value_fits tr (Steps.Issue t n (Calls.Rollback (Ours b))) r f e v = by (Steps.Issue t n (Calls.Rollback (Ours b))) r _ v f
value_fits tr (Steps.Issue t n (Calls.Rollback (Foreign x))) r f e v = by (Steps.Issue t n (Calls.Rollback (Foreign x))) r _ v tt
value_fits tr (Steps.Issue t n (Calls.Forget (Ours b))) r f e v = by (Steps.Issue t n (Calls.Forget (Ours b))) r _ v f
value_fits tr (Steps.Issue t n (Calls.Forget (Foreign x))) r f e v = by (Steps.Issue t n (Calls.Forget (Foreign x))) r _ v tt
value_fits tr (Steps.Issue t n (Calls.Recover k x y)) r f e v =
    by (Steps.Issue t n (Calls.Recover k x y)) r _ v
    (eqb-true t 0 (not-false (nat_eq t 0) (none_applies tr (Steps.Issue t n (Calls.Recover k x y)) Refusals.WrongThread e)))
value_fits tr (Steps.Take t n) r f e v = takes_fits tr t n r v
value_fits tr (Steps.Hear t n) r f e v = hears_fits tr t n r v
value_fits tr (Steps.Vote n (Ours b) x) r f e v = by (Steps.Vote n (Ours b) x) r _ v f
value_fits tr (Steps.Vote n (Foreign y) x) r f e v = by (Steps.Vote n (Foreign y) x) r _ v tt
value_fits tr (Steps.Busy n (Ours b) x) r f e v = by (Steps.Busy n (Ours b) x) r _ v f
value_fits tr (Steps.Busy n (Foreign y) x) r f e v = by (Steps.Busy n (Foreign y) x) r _ v tt
value_fits tr (Steps.Heuristic n (Ours b) how) r f e v = by (Steps.Heuristic n (Ours b) how) r _ v tt
value_fits tr (Steps.Heuristic n (Foreign y) how) r f e v = by (Steps.Heuristic n (Foreign y) how) r _ v tt
value_fits tr (Steps.Recover n k x y) r f e v = by (Steps.Recover n k x y) r _ v refl
value_fits tr (Steps.Restart (Side.Rm n)) r f e v = by (Steps.Restart (Side.Rm n)) r _ v tt
value_fits tr (Steps.Restart Side.Manager) r f e v = restarts_fits tr r v
value_fits tr s r f e v = by s r _ v tt

pub allowed_fits : (tr : Trace) (s : Step) (r : Reply) → StepFits s → Allowed tr s r → HappensFit (happened s r)
allowed_fits tr s r f (By_rule n e q) = by s r _ q (refused_fits n s)
allowed_fits tr s r f (As_value e v) = value_fits tr s r f e v
allowed_fits tr s r f (For_memory e m q) = by s r _ q tt
allowed_fits tr s r f (For_log e u q) = by s r _ q (failed_fits s)
