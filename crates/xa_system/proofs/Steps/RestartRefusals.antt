-- Why a restart of the manager is refused.
use Rattle.std.proofs.Common.{◌≡◌, ◌≤◌, ◌<◌, ◌+◌, inl, inr, ℕ, Bool, false, refl, sym, ap, subst, ◌∙◌, arith, Option, Some, None}
use Rattle.std.specs.Prelude.{if◌then◌else◌, IsSomeAnd}
use Rattle.xa_base.specs.Xid.{Xid}
use Rattle.xa_base.specs.declared.refusal.Refusal.{Refusal}
use Rattle.xa_base.specs.declared.refusal.Refusal.TheVariants as Refusals
use Rattle.xa_base.specs.declared.reply.Reply.{Reply}
use Rattle.xa_base.specs.declared.reply.Reply.TheVariants as Replies
use Rattle.xa_base.specs.declared.step.Side.TheVariants as Sides
use Rattle.xa_base.specs.declared.step.Step.TheVariants as Steps
use Rattle.xa_log.specs.Content.{Content}
use Rattle.xa_log.specs.declared.decision_log.LogCall.{LogCall}
use Rattle.xa_log.specs.declared.log_fault.LogFault.{LogFault}
use Rattle.xa_model.specs.Facts as facts
use Rattle.xa_model.specs.Replies.Allowed.{Allowed, Allowed.As_value, Allowed.By_rule, Allowed.For_log, Allowed.For_memory, Restarts, Restarts.Restarts_as, failed_restarts}
use Rattle.xa_model.specs.Replies.History.{reply_of}
use Rattle.xa_model.specs.Replies.Rules.{must_refuse}
use Rattle.xa_model.specs.Replies.Steps as known
use Rattle.xa_model.specs.Trace.{Trace}
use Rattle.xa_system.specs.LogInHistory.{IsBeforeNext}
use Rattle.xa_system.specs.SystemView.{IsFailed}
use Rattle.xa_tm.specs.Slots.{says_in}
use Rattle.xa_tm.specs.BookAndLog.{FoundIn}

-- an empty place for a log fails
pub empty_fails : {L : Type 0} (says : LogCall → (Content → Content) → L → L → Option LogFault → Type 0) (call : LogCall) (change : Content → Content)
    (old new : Option L) → old ≡ None → says_in says call change old new None → ⊥
empty_fails says call change None new none said = let no : ⊥ = absurd (cc) in no
empty_fails says call change (Some log) new none said = absurd (cc)

abbrev restart_why : (up : Bool) → Option Refusal
restart_why up = if up then Some Refusals.Busy else None

free : (tr : Trace) → facts.up tr ≡ false → must_refuse tr (Steps.Restart Sides.Manager) ≡ None
free tr down = λ i. restart_why (down i)

refused_so : (reply : Reply Xid) (n : Refusal) → reply_of reply ≡ Replies.Refused n → reply ≡ Replies.Refused n
refused_so (Replies.Refused m) n e = ap (λ k. Replies.Refused k) (let same : m ≡ n = cc in same)
refused_so reply n e = absurd (cc)

restarted_so : (tr : Trace) (r : known.Reply) → Restarts tr r → (reply : Reply Xid) → reply_of reply ≡ r → (i d h : ℕ) × (reply ≡ Replies.Restarted i d h)
restarted_so tr r (Restarts_as i d h least most rows records) (Replies.Restarted j e k) is = (j, e, k, refl)
restarted_so tr r (Restarts_as i d h least most rows records) reply is = absurd (cc)

-- a restart that is not done is refused, as the log failed or memory was refused
pub not_restarted : (tr : Trace) (reply : Reply Xid) → Allowed tr (Steps.Restart Sides.Manager) (reply_of reply) → facts.up tr ≡ false
    → ((i d h : ℕ) → reply ≡ Replies.Restarted i d h → ⊥) → IsFailed reply
not_restarted tr reply (By_rule n e q) down never = absurd (let no : Some n ≡ None = sym e ∙ free tr down in cc)
not_restarted tr reply (As_value e v) down never = let so = restarted_so tr (reply_of reply) v reply refl in absurd (never so.0 so.1 so.2 so.3)
not_restarted tr reply (For_memory e m q) down never = inr (refused_so reply Refusals.Memory q)
not_restarted tr reply (For_log e u q) down never = inl (refused_so reply Refusals.LogFault q)

numbers_so : (tr : Trace) (r : known.Reply) → Restarts tr r → (i d h : ℕ) → r ≡ Replies.Restarted i d h
    → (facts.incarnation tr < i) × (i ≤ facts.incarnation tr + 1 + failed_restarts tr)
numbers_so tr r (Restarts_as j e k least most rows records) i d h is =
    let same : j ≡ i = cc in
    (subst (λ n. facts.incarnation tr < n) same least, subst (λ n. n ≤ facts.incarnation tr + 1 + failed_restarts tr) same most)

-- one that is done is done over a log that it may follow
pub followed : (tr : Trace) (reply : Reply Xid) → Allowed tr (Steps.Restart Sides.Manager) (reply_of reply) → (i d h : ℕ)
    → reply ≡ Replies.Restarted i d h → (c : Content) → i ≡ c.incarnation + 1 → IsBeforeNext tr c
followed tr reply (By_rule n e q) i d h is c next = absurd (let no : Replies.Restarted i d h ≡ Replies.Refused n = sym (ap reply_of is) ∙ q in cc)
followed tr reply (As_value e v) i d h is c next =
    let numbers = numbers_so tr (reply_of reply) v i d h (ap reply_of is) in
    record {
      least = let a : facts.incarnation tr ≤ c.incarnation = omega (arith, numbers.0, next) in a;
      most = let a : c.incarnation ≤ facts.incarnation tr + failed_restarts tr = omega (arith, numbers.1, next) in a;
    }
followed tr reply (For_memory e m q) i d h is c next = absurd (let no : Replies.Restarted i d h ≡ Replies.Refused Refusals.Memory = sym (ap reply_of is) ∙
    q in cc)
followed tr reply (For_log e u q) i d h is c next = absurd (let no : Replies.Restarted i d h ≡ Replies.Refused Refusals.LogFault = sym (ap reply_of is) ∙ q in
    cc)

-- what is found in a log that holds this
pub found_in : (held : Option Content) (c : Content) (i d h : ℕ) → held ≡ Some c → IsSomeAnd held (FoundIn i d h) → i ≡ c.incarnation + 1
found_in None c i d h is found = absurd found
found_in (Some b) c i d h is found = let same : b ≡ c = cc in subst (λ x. i ≡ x.incarnation + 1) same found.incarnation
