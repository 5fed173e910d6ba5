use Rattle.std.proofs.Common.{◌≡◌, false, Some, None, refl, subst, sym, ap, ◌∙◌, ⊎_elim}
use Rattle.xa_model.specs.Replies.Allowed.{Allowed}
use Rattle.xa_model.specs.Replies.History.{reply_of, step_of}
use Rattle.xa_model.specs.Replies.Steps.{happened, log_failed}
use Rattle.xa_model.specs.Facts.{up}
use Rattle.xa_system.specs.LogInHistory.{IsBeforeNext, MayHaveFailed}
use Rattle.xa_system.proofs.Log.Changes.{slot_durable}
use Rattle.xa_system.proofs.Log.KeptLog.{kept}
use Rattle.xa_system.proofs.Steps.RestartRefusals.{empty_fails, followed, found_in, not_restarted}
use Rattle.xa_system.specs.KeptLog.{KeepsItsLog}
use Rattle.xa_tm.specs.Calls.{log_in}
use Rattle.xa_tm.specs.Slots.{log_held}
use Rattle.xa_system.proofs.Histories.Standing.{refused_as_nothing, stays_same}
use Rattle.xa_system.specs.SystemView.{HoldsItsTrace, IsAsBefore, IsFailed, observes, origin_in, system_view_of, trace_in}
use Rattle.xa_system.proofs.Histories.SystemView.{holds}
use Rattle.xa_system.proofs.Histories.AfterEvent.{as_before, began_kept, down_after, failed_so, fault_has_cause, honest_before, other_fault_has_cause, restart_may_follow, restart_may_follow_a_crash, somewhere, sound_then, start_kept, was_allowed}
use Rattle.xa_system.proofs.system.System.step.Goals as goal

pub returns-then-len-ge-EVENT_LIMIT-clause-parts :
    goal.returns-then-len-ge-EVENT_LIMIT-clause-parts
returns-then-len-ge-EVENT_LIMIT-clause-parts g c =
    let see = observes g.R.ResourceManager.look g.L.DecisionLog.moment in
    subst (λ v. HoldsItsTrace see v) c.self.view_is (holds _ _ c.self.inside c.self.invariant)

pub step-requires-clause-stands : goal.step-requires-clause-stands
step-requires-clause-stands g c =
    let see = observes g.R.ResourceManager.look g.L.DecisionLog.moment in
    somewhere _ _ c.self.inside c.self.invariant (rw c.len.ensures at c.if-len-ge-EVENT_LIMIT.false)

pub invariant_of-self : goal.invariant_of-self
invariant_of-self g c =
    let see = observes g.R.ResourceManager.look g.L.DecisionLog.moment in
    sound_then _ _ c.self.inside c.step.new.self c.push_reserved.new.self c.args.step c.step.result c.split-reply.result.1
    (slot_durable g.L.DecisionLog.moment g.met.L.DecisionLog.durable) c.self.invariant c.step.ensures.goes (ap (λ p. p.1) c.split-reply.ensures)
    (rw c.len.ensures at c.if-len-ge-EVENT_LIMIT.false) c.push_reserved.ensures.len c.push_reserved.ensures.items c.push_reserved.ensures.capacity

pub returns-clause-allowed : goal.returns-clause-allowed
returns-clause-allowed g c few =
    let see = observes g.R.ResourceManager.look g.L.DecisionLog.moment in
    subst (λ r. Allowed (trace_in see.look c.args.self.now) (step_of c.args.step) (reply_of r)) (sym (ap (λ p. p.0) c.split-reply.ensures))
    (subst (λ v. Allowed (trace_in see.look v) (step_of c.args.step) (reply_of c.step.result)) c.self.view_is
    (was_allowed _ _ c.self.inside c.step.new.self c.args.step c.step.result c.self.invariant c.step.ensures.goes
    (rw c.len.ensures at c.if-len-ge-EVENT_LIMIT.false)))

pub returns-clause-parts : goal.returns-clause-parts
returns-clause-parts g c =
    let see = observes g.R.ResourceManager.look g.L.DecisionLog.moment in
    holds _ _ _ (sound_then _ _ c.self.inside c.step.new.self c.push_reserved.new.self c.args.step c.step.result c.split-reply.result.1
    (slot_durable g.L.DecisionLog.moment g.met.L.DecisionLog.durable) c.self.invariant
    c.step.ensures.goes (ap (λ p. p.1) c.split-reply.ensures) (rw c.len.ensures at c.if-len-ge-EVENT_LIMIT.false) c.push_reserved.ensures.len
    c.push_reserved.ensures.items c.push_reserved.ensures.capacity)

pub returns-clause-start : goal.returns-clause-start
returns-clause-start g c =
    let see = observes g.R.ResourceManager.look g.L.DecisionLog.moment in
    subst (λ v. origin_in see.look (system_view_of (record {
      first = c.self.inside.first;
      handed = c.self.inside.handed;
      parts = c.step.new.self;
      events = c.push_reserved.new.self;
    })) ≡ origin_in see.look v) c.self.view_is
    (start_kept _ _ c.self.inside c.step.new.self c.args.step c.step.result c.self.invariant c.step.ensures.goes
    (rw c.len.ensures at c.if-len-ge-EVENT_LIMIT.false))

pub returns-then-len-ge-EVENT_LIMIT-clause-refused :
    goal.returns-then-len-ge-EVENT_LIMIT-clause-refused
returns-then-len-ge-EVENT_LIMIT-clause-refused g c n is other =
    let see = observes g.R.ResourceManager.look g.L.DecisionLog.moment in
    record { rms = λ r rm at. (rm, at, stays_same see.look rm); lines = λ t r has. refl; log = refl }

pub returns-then-len-ge-EVENT_LIMIT-clause-nothing :
    goal.returns-then-len-ge-EVENT_LIMIT-clause-nothing
returns-then-len-ge-EVENT_LIMIT-clause-nothing g c n is other = refl

pub returns-clause-refused : goal.returns-clause-refused
returns-clause-refused g c n is other =
    let see = observes g.R.ResourceManager.look g.L.DecisionLog.moment in
    subst (λ v. IsAsBefore see v (system_view_of (record {
      first = c.self.inside.first;
      handed = c.self.inside.handed;
      parts = c.step.new.self;
      events = c.push_reserved.new.self;
    }))) c.self.view_is
    (as_before _ _ c.self.inside c.step.new.self c.push_reserved.new.self c.args.step c.step.result c.self.invariant c.step.ensures.goes
    (rw c.len.ensures at c.if-len-ge-EVENT_LIMIT.false) n (sym (ap (λ p. p.0) c.split-reply.ensures) ∙ is) other)

pub returns-clause-nothing : goal.returns-clause-nothing
returns-clause-nothing g c n is other =
    ap (λ r. happened (step_of c.args.step) (reply_of r)) is ∙ refused_as_nothing n (step_of c.args.step) other

pub returns-clause-failed : goal.returns-clause-failed
returns-clause-failed g c is =
    let see = observes g.R.ResourceManager.look g.L.DecisionLog.moment in
    let told = sym (ap (λ p. p.0) c.split-reply.ensures) ∙ is in
    record {
      down = down_after _ _ c.self.inside c.step.new.self c.push_reserved.new.self c.args.step c.step.result c.split-reply.result.1 c.self.invariant
          c.step.ensures.goes
          (ap (λ p. p.1) c.split-reply.ensures) (rw c.len.ensures at c.if-len-ge-EVENT_LIMIT.false) c.push_reserved.ensures.items told;
      left = subst (λ v. (see.moment v.handed).is_in_order → (see.place (log_in c.step.new.self.manager)).is_honest
          → MayHaveFailed (trace_in see.look v) (log_failed (step_of c.args.step)) (see.place v.log).content
          (see.place (log_in c.step.new.self.manager)).content) c.self.view_is
          (failed_so _ _ c.self.inside c.step.new.self c.args.step c.step.result c.self.invariant c.step.ensures.goes
          (rw c.len.ensures at c.if-len-ge-EVENT_LIMIT.false) told);
    }

pub returns-clause-no_restart : goal.returns-clause-no_restart
returns-clause-no_restart g c is few down =
    let see = observes g.R.ResourceManager.look g.L.DecisionLog.moment in
    let same = ap (λ p. p.0) c.split-reply.ensures in
    let then = trace_in see.look (system_view_of c.self.inside) in
    let allowed = was_allowed _ _ c.self.inside c.step.new.self c.args.step c.step.result c.self.invariant c.step.ensures.goes
    (rw c.len.ensures at c.if-len-ge-EVENT_LIMIT.false) in
    let as_restart = subst (λ s. Allowed then (step_of s) (reply_of c.step.result)) is allowed in
    let was_down = subst (λ v. up (trace_in see.look v) ≡ false) (sym c.self.view_is) down in
    ⊎_elim
    (λ none. subst IsFailed (sym same) (not_restarted then c.step.result as_restart was_down
    (λ i d h restarted. empty_fails g.L.DecisionLog.says _ _ (log_held (log_in c.self.inside.parts.manager)) _
    (subst (λ v. log_held v.log ≡ None) (sym c.self.view_is) none) (c.step.ensures.read i d h is restarted).rows)))
    (λ holds.
    let in_order = c.self.invariant.log.order (subst (λ v. (see.moment v.handed).is_in_order) (sym c.self.view_is) holds.order) in
    let held = subst (λ v. (see.place v.log).content ≡ Some holds.content) (sym c.self.view_is) holds.holds in
    subst IsFailed (sym same) (not_restarted then c.step.result as_restart was_down
    (λ i d h restarted. subst (λ v. IsBeforeNext (trace_in see.look v) holds.content → ⊥) (sym c.self.view_is) holds.other
    (followed then c.step.result as_restart i d h restarted holds.content
    (found_in (see.place (log_in c.self.inside.parts.manager)).content holds.content i d h held
    ((c.step.ensures.read i d h is restarted).found in_order holds.honest))))))

pub returns-then-len-ge-EVENT_LIMIT-clause-log :
    goal.returns-then-len-ge-EVENT_LIMIT-clause-log
returns-then-len-ge-EVENT_LIMIT-clause-log g c = kept (observes g.R.ResourceManager.look g.L.DecisionLog.moment) _

pub returns-clause-log : goal.returns-clause-log
returns-clause-log g c =
    let see = observes g.R.ResourceManager.look g.L.DecisionLog.moment in
    let room = rw c.len.ensures at c.if-len-ge-EVENT_LIMIT.false in
    let copied = ap (λ p. p.1) c.split-reply.ensures in
    let durable = slot_durable g.L.DecisionLog.moment g.met.L.DecisionLog.durable in
    subst (λ v. KeepsItsLog see v (system_view_of (record {
      first = c.self.inside.first;
      handed = c.self.inside.handed;
      parts = c.step.new.self;
      events = c.push_reserved.new.self;
    }))) c.self.view_is
    (record {
      handed = refl;
      first = refl;
      begun = began_kept _ _ c.self.inside c.step.new.self c.args.step c.step.result c.self.invariant c.step.ensures.goes room;
      honest = honest_before _ _ c.self.inside c.step.new.self c.args.step c.step.result c.self.invariant c.step.ensures.goes room;
      near =
          restart_may_follow _ _ c.self.inside c.step.new.self c.push_reserved.new.self c.args.step c.step.result c.split-reply.result.1
          c.self.invariant c.step.ensures.goes copied room c.push_reserved.ensures.items;
      crash =
          restart_may_follow_a_crash _ _ c.self.inside c.step.new.self c.push_reserved.new.self c.args.step c.step.result
          c.split-reply.result.1 durable c.self.invariant c.step.ensures.goes copied room c.push_reserved.ensures.items;
      faults =
          fault_has_cause _ _ c.self.inside c.step.new.self c.push_reserved.new.self c.args.step c.step.result c.split-reply.result.1
          c.self.invariant c.step.ensures.goes copied room c.push_reserved.ensures.items;
      other_faults =
          other_fault_has_cause _ _ c.self.inside c.step.new.self c.push_reserved.new.self c.args.step c.step.result c.split-reply.result.1
          c.self.invariant c.step.ensures.goes copied room c.push_reserved.ensures.items;
    })
