-- Where a run of a scenario starts.
use Rattle.std.proofs.Common.{◌≡◌, ℕ, List, [], All, IfSome, IsSome, IsSomeAnd, Option, Some, None, ap, arith, inl, inr, slice_get, refl, subst, sym}
use Rattle.std.proofs.lemmas.Option.{get_or_from_slice_get, slice_get_within}
use Rattle.std.specs.Option.{option_map_or}
use Rattle.xa_base.specs.HeldBranch.{new_branch}
use Rattle.xa_base.specs.Scan.{Scan.NotOpen}
use Rattle.xa_base.specs.Xid.{Xid}
use Rattle.xa_base.specs.declared.limits.TheConstants.{MAX_RMS, MAX_THREADS}
use Rattle.xa_log.specs.Contract.{Moment}
use Rattle.xa_model.specs.Trace.{Name.Foreign}
use Rattle.xa_scenario.specs.LogKeeping.{HasStarted}
use Rattle.xa_scenario.specs.Runs.{IsNewRm}
use Rattle.xa_scenario_file.specs.Scenarios.{IsSize}
use Rattle.xa_system.specs.LogInHistory.{StartsOver}
use Rattle.xa_system.specs.SystemView.{HasWrongSize, MayRestart, Observes, SystemView, origin_in}
use Rattle.xa_system.specs.RmInHistory.{scan_by}
use Rattle.xa_tm.specs.Slots.{honest_in, log_held, slot_moment}
use Rattle.xa_tm.specs.declared.slot.Slot.{Slot}
use Rattle.xa_rm.specs.Look.{Look}

module _ {R : Type 0} (look : R → Look) where
  -- if each resource manager is new, so is what is found at a place
  new_found : (rms : List R) → All (IsNewRm look) rms → (r : ℕ) (found : Option R) → slice_get rms r ≡ found → IfSome found (IsNewRm look)
  new_found rms each r None is = tt
  new_found rms each r (Some rm) is = subst (IsNewRm look) (get_or_from_slice_get rms r rm rm is) (each r rm (slice_get_within rms r rm is))

  pub new_at : (rms : List R) → All (IsNewRm look) rms → (r : ℕ) → IfSome (slice_get rms r) (IsNewRm look)
  new_at rms each r = new_found rms each r (slice_get rms r) refl

  -- what is seen of it, or of none
  pub unstarted : (found : Option R) → IfSome found (IsNewRm look) → (x : Xid) → option_map_or (λ rm. (look rm).held) found (λ y. new_branch) x ≡ new_branch
  unstarted None new x = refl
  unstarted (Some rm) new x = new.held x

  pub none_in_doubt : (found : Option R) → IfSome found (IsNewRm look) → option_map_or (λ rm. (look rm).in_doubt) found [] ≡ []
  none_in_doubt None new = refl
  none_in_doubt (Some rm) new = new.in_doubt

  pub none_open : (found : Option R) → IfSome found (IsNewRm look)
      → option_map_or (λ rm. scan_by (λ x. Foreign x) ((look rm).scan 0)) found NotOpen ≡ NotOpen
  none_open None new = refl
  none_open (Some rm) new = ap (λ scan. scan_by (λ x. Foreign x) scan) (new.scans 0)

-- a slot with a log in it is as honest as that
module _ {L : Type 0} (moment : L → Moment) (slot : Slot L) (left : L) (is : log_held slot ≡ Some left) where
  pub in_slot : (moment left).is_honest → (slot_moment moment slot).is_honest
  in_slot h = subst (λ (it : Option L). honest_in (λ l. (moment l).is_honest) slot.was.value it) (sym is) h

  pub out_of_slot : (slot_moment moment slot).is_honest → (moment left).is_honest
  out_of_slot h = subst (λ (it : Option L). honest_in (λ l. (moment l).is_honest) slot.was.value it) is h

-- a system that has just begun over a log
module _ {R L : Type 0} (see : Observes R L) (log : L) (s : SystemView R L) (as_slot : see.place ≡ slot_moment see.moment) (same : s.begun ≡ s.log)
    (handed : s.handed ≡ log) (honest : (slot_moment see.moment s.log).is_honest → (see.moment log).is_honest)
    (starts : (see.moment log).is_in_order → (slot_moment see.moment s.begun).is_honest
    → IsSomeAnd (see.moment log).content (StartsOver (origin_in see.look s)))
    (near : (see.moment log).is_in_order → (see.place s.log).is_honest → MayRestart see s) where
  started_with : (held : Option L) → log_held s.log ≡ held → IsSome held → HasStarted see log s
  started_with None is some = absurd (cc)
  started_with (Some left) is some = record {
    over = record {
      left = left;
      honest = λ h. honest (in_slot see.moment s.log left is h);
      held = λ order h. starts order (subst (λ slot. (slot_moment see.moment slot).is_honest) (sym same) (in_slot see.moment s.log left is h));
    };
    is_left = is;
    handed = handed;
    near = near;
  }

  pub has_started : IsSome (log_held s.log) → HasStarted see log s
  has_started some = started_with (log_held s.log) refl some

-- a size that is right isn't wrong
pub not_wrong : (threads rms : ℕ) → IsSize MAX_THREADS threads → IsSize MAX_RMS rms → ¬ (HasWrongSize threads rms)
not_wrong threads rms first second (inl none) = absurd (omega (arith, first.0, none))
not_wrong threads rms first second (inr (inl many)) = absurd (omega (arith, first.1, many))
not_wrong threads rms first second (inr (inr (inl none))) = absurd (omega (arith, second.0, none))
not_wrong threads rms first second (inr (inr (inr many))) = absurd (omega (arith, second.1, many))
