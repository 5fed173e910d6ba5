use Rattle.std.proofs.Common.{◌≡◌, All, vec_len}
use Rattle.xa_rm.specs.contracts.mem_rm.MemRmResourceManager.TheImpl as memory
use Rattle.xa_scenario.specs.Runs.{IsNewRm}
use Rattle.xa_scenario.proofs.start.rms_of.Given as goal

abbrev pub invariant-loop-rm : goal.invariant-loop-rm
invariant-loop-rm l = record {
  count : vec_len l.rms ≡ l._rm;
  new : All (IsNewRm (memory.ghosts).look) l.rms.items;
}
