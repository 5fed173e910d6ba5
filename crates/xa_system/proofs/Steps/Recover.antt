-- A Recover is an Issue of xa_recover on the first thread's line.
use Rattle.std.proofs.Common.{◌≡◌, ℕ, ℤ, Bool, true, refl, sym, ap, ◌∙◌, subst}
use Rattle.std.proofs.lemmas.Bool.{lt-ltb}
use Rattle.xa_base.specs.Xid.{Xid}
use Rattle.xa_model.specs.Replies.Allowed.{Allowed, Allowed.As_value, Allowed.By_rule, Allowed.For_log, Allowed.For_memory}
use Rattle.xa_model.specs.Replies.History.{reply_of}
use Rattle.xa_model.specs.Replies.Rules.{has_thread, must_refuse}
use Rattle.xa_model.specs.Replies.Steps as known
use Rattle.xa_model.specs.Replies.Steps.{happened, refused}
use Rattle.xa_model.specs.Trace.{Trace, Trace.Then}
use Rattle.xa_base.specs.declared.call.Call.TheVariants as Calls
use Rattle.xa_base.specs.declared.refusal.Refusal.{Refusal}
use Rattle.xa_base.specs.declared.refusal.Refusal.TheVariants as Refusals
use Rattle.xa_base.specs.declared.reply.Reply.{Reply}
use Rattle.xa_base.specs.declared.step.Step.TheVariants as Steps
use Rattle.xa_system.specs.LogInHistory.{LogFollows}
use Rattle.xa_system.specs.Parts.{GoesOn, Sees, Stands}
use Rattle.xa_system.specs.declared.parts.Parts.{Parts}

module _ (tr : Trace) (r : ℕ) (count : ℤ) (start end : Bool) where
  same_rule : has_thread tr 0 ≡ true → must_refuse tr (Steps.Issue 0 r (Calls.Recover count start end)) ≡ must_refuse tr (Steps.Recover r count start end)
  same_rule there = rw there refl

  same_refused : (n : Refusal) → refused n (Steps.Issue 0 r (Calls.Recover count start end)) ≡ refused n (Steps.Recover r count start end)
  same_refused Refusals.LogFault = refl
  same_refused n = refl

  same_allowed : (reply : known.Reply) → has_thread tr 0 ≡ true
      → Allowed tr (Steps.Issue 0 r (Calls.Recover count start end)) reply → Allowed tr (Steps.Recover r count start end) reply
  same_allowed reply there (By_rule n e q) = By_rule n (sym (same_rule there) ∙ e) q
  same_allowed reply there (As_value e v) = As_value (sym (same_rule there) ∙ e) v
  same_allowed reply there (For_memory e m q) = For_memory (sym (same_rule there) ∙ e) tt q
  same_allowed reply there (For_log e u q) = absurd u

  same_happening : (reply : known.Reply) → Allowed tr (Steps.Issue 0 r (Calls.Recover count start end)) reply
      → happened (Steps.Issue 0 r (Calls.Recover count start end)) reply ≡ happened (Steps.Recover r count start end) reply
  same_happening reply (By_rule n e q) =
      ap (happened (Steps.Issue 0 r (Calls.Recover count start end))) q ∙ same_refused n ∙ sym (ap (happened (Steps.Recover r count start end)) q)
  same_happening reply (As_value e v) =
      ap (happened (Steps.Issue 0 r (Calls.Recover count start end))) v ∙ sym (ap (happened (Steps.Recover r count start end)) v)
  same_happening reply (For_memory e m q) =
      ap (happened (Steps.Issue 0 r (Calls.Recover count start end))) q ∙ sym (ap (happened (Steps.Recover r count start end)) q)
  same_happening reply (For_log e u q) = absurd u

pub recover_goes : {R L : Type 0} (see : Sees R L) (r : ℕ) (count : ℤ) (start end : Bool) (reply : Reply Xid) (old new : Parts R L)
    → GoesOn see (Steps.Issue 0 r (Calls.Recover count start end)) reply old new → GoesOn see (Steps.Recover r count start end) reply old new
recover_goes see r count start end reply old new goes tr stands few =
    let one = goes tr stands few in
    let there = lt-ltb 0 _ stands.some_thread in
    record {
      allowed = same_allowed tr r count start end (reply_of reply) there one.allowed;
      stands = subst (λ e. Stands see (Then tr e) new) (same_happening tr r count start end (reply_of reply) one.allowed) one.stands;
      began = one.began;
      log = subst (λ e. LogFollows see.moment tr e old.manager new.manager) (same_happening tr r count start end (reply_of reply) one.allowed) one.log;
      unchanged = one.unchanged;
    }
