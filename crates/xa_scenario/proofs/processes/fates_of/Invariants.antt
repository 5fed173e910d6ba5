use Rattle.xa_scenario.specs.Processes.{AreFates}
use Rattle.xa_system.specs.SystemView.{origin_in}
use Rattle.xa_scenario.proofs.processes.fates_of.Given as goal

abbrev pub invariant-loop-xid : goal.invariant-loop-xid
invariant-loop-xid g l =
    AreFates (origin_in g.R.ResourceManager.look l.system) l.system.events
    l.yielded l.fates.items
