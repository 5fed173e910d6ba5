use Rattle.std.proofs.Common.{◌≡◌, ◌-◌, length}
use Rattle.xa_scenario.specs.Plays.{IsDrain}
use Rattle.xa_scenario.proofs.PlayLemmas.{GoesOn}
use Rattle.xa_scenario.specs.LogKeeping.{KeepsLog}
use Rattle.xa_system.specs.SystemView.{observes, origin_in}
use Rattle.xa_scenario.proofs.play.drain.Given as goal

abbrev pub invariant-pairs : goal.invariant-pairs
invariant-pairs g l = record {
  goes_on : GoesOn (IsDrain l.thread l.rm) l.fn.system.events l.system.events;
  start : origin_in g.R.ResourceManager.look l.system
      ≡ origin_in g.R.ResourceManager.look l.fn.system;
  log : KeepsLog (observes g.R.ResourceManager.look g.L.DecisionLog.moment)
      l.fn.system l.system;
}

abbrev pub decreases-pairs : goal.decreases-pairs
decreases-pairs g l = 10000 - length l.system.events
