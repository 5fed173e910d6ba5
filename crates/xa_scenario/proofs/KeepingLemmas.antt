-- What steps in turn leave of the log of a system.
use Rattle.std.proofs.Common.{◌∙◌, refl, subst, sym}
use Rattle.xa_scenario.specs.LogKeeping.{KeepsLog}
use Rattle.xa_system.specs.SystemView.{Observes, SystemView}

module _ {R L : Type 0} (see : Observes R L) where
  pub kept : (s : SystemView R L) → KeepsLog see s s
  kept s = record { handed = refl; honest = λ h. h; near = λ order h near. near }

  pub kept_on : (a b d : SystemView R L) → KeepsLog see a b → KeepsLog see b d → KeepsLog see a d
  kept_on a b d first second = record {
    handed = second.handed ∙ first.handed;
    honest = λ h. first.honest (second.honest h);
    near = λ order h near.
        second.near (subst (λ l. (see.moment l).is_in_order) (sym first.handed) order) h (first.near order (second.honest h) near);
  }

module _ {R L : Type 0} {see : Observes R L} where
  -- steps, and two more
  pub twice : (a b d e : SystemView R L) → KeepsLog see a b → KeepsLog see b d → KeepsLog see d e → KeepsLog see a e
  twice a b d e first second third = kept_on see a d e (kept_on see a b d first second) third
