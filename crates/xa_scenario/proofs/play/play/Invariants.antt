use Rattle.std.proofs.Common.{◌≡◌, drop}
use Rattle.xa_scenario.specs.LogKeeping.{KeepsLog}
use Rattle.xa_scenario.proofs.PlayLemmas.{PlaysOn}
use Rattle.xa_system.specs.SystemView.{observes, origin_in}
use Rattle.xa_scenario.proofs.play.play.Given as goal

abbrev pub invariant-loop-entry : goal.invariant-loop-entry
invariant-loop-entry g l = record {
  leads : PlaysOn l.fn.gtrids.items l.entries l.fn.system.events l.gtrids.items (drop l.entry-index l.entries) l.system.events;
  start : origin_in g.R.ResourceManager.look l.system
      ≡ origin_in g.R.ResourceManager.look l.fn.system;
  log : KeepsLog (observes g.R.ResourceManager.look g.L.DecisionLog.moment)
      l.fn.system l.system;
}
