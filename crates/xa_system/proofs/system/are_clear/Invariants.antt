use Rattle.std.proofs.Common.{◌≡◌, ◌<◌, ℕ, Some, slice_get}
use Rattle.xa_system.specs.SystemView.{IsClear}
use Rattle.xa_system.proofs.system.are_clear.Given as goal

-- those so far are clear
abbrev pub invariant-loop-rm : goal.invariant-loop-rm
invariant-loop-rm g l = (r : ℕ) (rm : g.row.R.Denot) → slice_get l.rms r ≡ Some rm → r < l.rm-index
    → IsClear g.R.ResourceManager.look rm
