use Rattle.std.proofs.Common.{◌∷◌, map, take}
use Rattle.xa_log.specs.contracts.mem_log.MemLogDecisionLog.TheImpl as memory
use Rattle.xa_rm.specs.contracts.mem_rm.MemRmResourceManager.TheImpl as mem_rm
use Rattle.xa_system.specs.SystemView.{observes}
use Rattle.uses.specs.Processes.{AreProcesses}
use Rattle.uses.proofs.processes.processes.Given as goal

-- the processes so far
abbrev pub invariant-loop-steps : goal.invariant-loop-steps
invariant-loop-steps l =
    AreProcesses (observes (mem_rm.ghosts).look (memory.ghosts).moment)
    (l.first ∷ map (λ steps. steps.items) (take l.steps-index l.later)) l.system
