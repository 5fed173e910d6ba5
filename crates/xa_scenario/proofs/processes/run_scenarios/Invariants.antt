use Rattle.std.proofs.Common.{◌≡◌, ◌∷◌, length, map, take}
use Rattle.xa_rm.specs.contracts.mem_rm.MemRmResourceManager.TheImpl as memory
use Rattle.xa_scenario_file.specs.Scenarios.{Plan, plan_of}
use Rattle.xa_scenario.proofs.PrintLemmas.{HavePrinted}
use Rattle.xa_system.specs.SystemView.{observes}
use Rattle.xa_scenario.proofs.processes.run_scenarios.Given as goal

abbrev pub invariant-loop-i : goal.invariant-loop-i
invariant-loop-i g l = (plan : Plan) × (plan ∷ map plan_of l.later ≡ map plan_of l.scenarios) × (length l.process.system.rms ≡ plan.rms)
    × HavePrinted (observes (memory.ghosts).look g.L.DecisionLog.moment) l.fn.log l.with_trace (map plan_of l.scenarios)
    l.process (plan ∷ map plan_of (take l.i l.later)) (g.W.Write.contents l.fn.out) (g.W.Write.contents l.out)
