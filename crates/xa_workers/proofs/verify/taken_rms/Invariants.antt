use Rattle.std.proofs.Common.{◌≡◌, ℕ, Some}
use Rattle.std.specs.Prelude.{slice_get}
use Rattle.xa_workers.specs.Fates.{HasOnly}
use Rattle.xa_workers.proofs.verify.taken_rms.Given as goal

abbrev pub invariant-loop-left : goal.invariant-loop-left
invariant-loop-left g l =
    (goal.iterator-loop-left g).can_next l.left-iterator × (goal.iterator-loop-left g).is_finite l.left-iterator
    × ((r : ℕ) (rm : _) → slice_get l.rms.items r ≡ Some rm → HasOnly (g.J.Run.is_own r) rm)
