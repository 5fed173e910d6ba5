use Rattle.xa_system.specs.Steps.{Crashes}
use Rattle.xa_system.proofs.Steps.CrashAll.{DoneBelow}
use Rattle.xa_system.proofs.site.crash_rms.Given as goal

abbrev pub invariant-loop-rm : goal.invariant-loop-rm
invariant-loop-rm g l =
    DoneBelow (Crashes g.R.ResourceManager.look) l.fn.rms.items l.rms.items l.rm
