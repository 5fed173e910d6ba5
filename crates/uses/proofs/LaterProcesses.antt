-- Processes one after another.
use Rattle.std.proofs.Common.{◌≡◌, ◌<◌, ◌≤◌, ◌+◌, ◌++◌, ◌∙◌, ℕ, arith, List, [], ◌∷◌, length, map, take, refl, sym, ap, subst}
use Rattle.std.proofs.lemmas.List.{map_more}
use Rattle.std.specs.Prelude.{IfOk, IfSome, IsOk, IsSomeAnd, OnErr, OnOk, Option, Some, None, Result, Ok, Err, slice_index_or}
use Rattle.xa_base.specs.Xid.{Xid}
use Rattle.xa_base.specs.declared.refusal.Refusal.{Refusal}
use Rattle.xa_base.specs.declared.refusal.Refusal.TheVariants as Refusals
use Rattle.xa_base.specs.declared.reply.Event.{Event}
use Rattle.xa_base.specs.declared.step.Step.{Step}
use Rattle.xa_log.specs.Content.{Content}
use Rattle.xa_log.specs.Contract.{Moment}
use Rattle.xa_model.specs.Promises.Processes.{Resumes, joined}
use Rattle.xa_model.specs.Protocol.{AllRight, RightOrigin}
use Rattle.xa_model.specs.Trace.{Origin, Trace}
use Rattle.xa_system.specs.NextProcess.{Leaves}
use Rattle.xa_system.specs.SystemView.{AddsSteps, HoldsItsTrace, MayRestart, Observes, SystemView, observes, origin_in, trace_in}
use Rattle.xa_system.specs.declared.system.remains.Remains.{Remains}
use Rattle.xa_system.specs.declared.system.TheConstants.{EVENT_LIMIT}
use Rattle.xa_tm.specs.Slots.{honest_in, last_out, log_held, slot_moment}
use Rattle.xa_sql_log.proofs.FoundDecisions.{some_is as there_is}
use Rattle.uses.specs.Processes.{AreDone, AreProcesses, HaveRun.First, HaveRun.Next, IsEndOf, IsLastOf}
use Rattle.xa_rm.specs.Look.{Look}

-- ** what there is

pub of_held : {A : Type 0} (P : A → Type 0) (o : Option A) (x : A) → o ≡ Some x → IfSome o P → P x
of_held P o x is holds = subst (λ p. IfSome p P) is holds

pub for_held : {A : Type 0} (P : A → Type 0) (o : Option A) (x : A) → o ≡ Some x → P x → IfSome o P
for_held P o x is holds = subst (λ p. IfSome p P) (sym is) holds

-- ** steps that a new system does

pub are_done : {R L : Type 0} (steps : List (Step Xid)) (old new : SystemView R L) (result : Result (Unit {0}) Refusal) → old.events ≡ []
    → (length old.events + length steps ≤ EVENT_LIMIT → IsOk result) → OnOk result (AddsSteps steps old.events new.events)
    → (EVENT_LIMIT < length old.events + length steps → result ≡ Err Refusals.Limit) → OnErr result (new ≡ old) → AreDone steps new.events
are_done {R} {L} steps old new result empty room adds limit same = record {
  all = λ few. each_done result (room (fits few)) adds;
  none = λ many. ap (λ (s : SystemView R L). s.events) (as_before (limit (fits_not many))) ∙ empty;
}
  where
    no_events : length old.events ≡ 0
    no_events = ap length empty

    fits : length steps ≤ EVENT_LIMIT → length old.events + length steps ≤ EVENT_LIMIT
    fits few = omega (arith, few, no_events)

    fits_not : EVENT_LIMIT < length steps → EVENT_LIMIT < length old.events + length steps
    fits_not many = omega (arith, many, no_events)

    each_done : (r : Result (Unit {0}) Refusal) → IsOk r → OnOk r (AddsSteps steps old.events new.events)
        → map (λ (event : Event). event.step) new.events ≡ steps
    each_done (Ok u) ok added = ap (map (λ (event : Event). event.step)) (added.2 ∙ ap (λ xs. xs ++ added.0) empty) ∙ added.1
    each_done (Err e) ok added = absurd (cc)

    as_before : result ≡ Err Refusals.Limit → new ≡ old
    as_before is = subst (λ r. OnErr r (new ≡ old)) is same

-- ** a process over what is left

module _ {R L : Type 0} (see : Observes R L) where
  -- a start that resumes all that leaves this resumes each history that ended in it
  pub resumes : (past : Trace) (remains : Remains R L) (log : L) (made now : Origin) → remains.log ≡ Some log → IsEndOf see past remains
      → now ≡ made → (see.moment log).is_honest
      → IsSomeAnd (see.moment log).content (λ content. (tr : Trace) → Leaves see.look tr remains.rms.items content → Resumes tr made)
      → Resumes past now
  resumes past remains log made now is ends same honest all =
      let found = there_is (see.moment log).content _ all in
      let leaves = of_held _ remains.log log is ends.leaves in
      subst (Resumes past) (sym same) (ends.passes_on made (found.2 ends.last (leaves honest found.0 found.1)))

  -- the first of the processes
  pub first : (steps : List (Step Xid)) (s : SystemView R L) → RightOrigin (origin_in see.look s) → HoldsItsTrace see s → AreDone steps s.events
      → AllRight (trace_in see.look s) → (see.moment s.handed).is_in_order → MayRestart see s → AreProcesses see (steps ∷ []) s
  first steps s start holds does right order near = record {
    whole = trace_in see.look s;
    ran = First (origin_in see.look s) steps s.events start holds.allowed does;
    last = record { right = right; passes_on = λ next r. r; order = order; near = near };
  }

  -- one more process
  pub one_more : {E : Type 0} (lists : List (List (Step Xid))) (steps : List (Step Xid)) (old : SystemView R L) (so_far : AreProcesses see lists old)
      (r : Result (SystemView R L) E) → IfOk r (λ s. AreDone steps s.events) → IfOk r (HoldsItsTrace see)
      → IfOk r (λ s. (see.place s.log).is_honest → Resumes so_far.whole (origin_in see.look s))
      → IfOk r (λ s. (see.place s.log).is_honest → IsLastOf see (joined so_far.whole (origin_in see.look s) s.events) s)
      → IfOk r (λ s. (see.place s.log).is_honest → AreProcesses see (lists ++ steps ∷ []) s)
  one_more lists steps old so_far (Ok s) does holds resumes last = λ honest. record {
    whole = joined so_far.whole (origin_in see.look s) s.events;
    ran = Next lists so_far.whole (origin_in see.look s) steps s.events so_far.ran (resumes honest) holds.allowed does;
    last = last honest;
  }
  one_more lists steps old so_far (Err e) does holds resumes last = tt

module _ {R L : Type 0} (look : R → Look) (moment : L → Moment) where
  abbrev sees_of : Observes R L
  sees_of = observes look moment

  -- the last process's end is the end of the whole
  pub end_of : (whole : Trace) (s : SystemView R L) (remains : Remains R L) → IsLastOf sees_of whole s → remains.log ≡ log_held s.log
      → ((moment s.handed).is_in_order → (log : L) → remains.log ≡ Some log → (moment log).is_in_order)
      → ((moment s.handed).is_in_order → (slot_moment moment s.log).is_honest → MayRestart sees_of s → (log : L) (c : Content) → remains.log ≡ Some log
      → (moment log).content ≡ Some c → Leaves sees_of.look (trace_in sees_of.look s) remains.rms.items c)
      → IsEndOf sees_of whole remains
  end_of whole s remains last same order left = record {
    right = last.right;
    last = trace_in sees_of.look s;
    passes_on = last.passes_on;
    order = in_order remains.log refl;
    leaves = leaves remains.log refl;
  }
    where
      in_order : (o : Option L) → remains.log ≡ o → IfSome o (λ log. (moment log).is_in_order)
      in_order (Some log) is = order last.order log is
      in_order None is = tt

      leaves : (o : Option L) → remains.log ≡ o → IfSome o (λ log. (moment log).is_honest → (c : Content) → (moment log).content ≡ Some c
          → Leaves sees_of.look (trace_in sees_of.look s) remains.rms.items c)
      leaves (Some log) is = λ honest c holds. left last.order
          (subst (honest_in (λ l. (moment l).is_honest) (last_out s.log)) (sym is ∙ same) honest) last.near log c is holds
      leaves None is = tt

-- ** any number of processes

-- the lists of the processes so far, and one more
pub lists_more : {A B : Type 0} (f : A → B) (xs : List A) (i : ℕ) (x : A) → i < length xs → x ≡ slice_index_or xs i x
    → map f (take i xs) ++ f x ∷ [] ≡ map f (take (i + 1) xs)
lists_more f xs i x low is = ap (λ y. map f (take i xs) ++ f y ∷ []) is ∙ sym (map_more f xs i x low)
