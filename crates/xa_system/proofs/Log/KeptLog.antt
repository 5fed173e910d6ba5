-- The log that was handed in last is kept over many steps.
use Rattle.std.proofs.Common.{◌≡◌, ◌∷◌, ◌++◌, [], inr, refl, sym, subst, ◌∙◌, arith}
use Rattle.xa_base.specs.declared.reply.Event.{Event}
use Rattle.xa_system.specs.KeptLog.{KeepsItsLog}
use Rattle.xa_system.specs.SystemView.{Observes, SystemView}
use Rattle.xa_system.proofs.Log.FaultCounts.{causes_chain, is_fault_event, is_other_fault}

module _ {R L : Type 0} (see : Observes R L) where
  -- if nothing has happened
  pub kept : (s : SystemView R L) → KeepsItsLog see s s
  kept s = record {
    handed = refl;
    first = refl;
    begun = refl;
    honest = λ h. h;
    near = λ order honest may. may;
    crash = λ order honest may crash. crash;
    faults = λ order honest may. inr (omega arith);
    other_faults = inr (omega arith);
  }

  -- over one event more
  pub kept_on : (a b c : SystemView R L) (event : Event) → c.events ≡ b.events ++ event ∷ []
      → KeepsItsLog see a b → KeepsItsLog see b c → KeepsItsLog see a c
  kept_on a b c event adds so_far step = record {
    handed = step.handed ∙ so_far.handed;
    first = step.first ∙ so_far.first;
    begun = step.begun ∙ so_far.begun;
    honest = λ h. so_far.honest (step.honest h);
    near = λ order honest may. step.near (same order) honest (so_far.near order (step.honest honest) may);
    crash = λ order honest may crash.
        step.crash (same order) honest (so_far.near order (step.honest honest) may) (so_far.crash order (step.honest honest) may crash);
    faults = λ order honest may.
        causes_chain is_fault_event a.events b.events c.events event (see.place a.log).fault_count (see.place b.log).fault_count
        (see.place c.log).fault_count adds (so_far.faults order (step.honest honest) may)
        (step.faults (same order) honest (so_far.near order (step.honest honest) may));
    other_faults =
        causes_chain is_other_fault a.events b.events c.events event (see.place a.log).fault_count (see.place b.log).fault_count
        (see.place c.log).fault_count adds so_far.other_faults step.other_faults;
  }
    where
      same : (see.moment a.handed).is_in_order → (see.moment b.handed).is_in_order
      same order = subst (λ l. (see.moment l).is_in_order) (sym so_far.handed) order
