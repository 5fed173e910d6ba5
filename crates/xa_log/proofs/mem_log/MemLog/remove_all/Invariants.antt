use Rattle.std.proofs.Common.{◌≡◌, take}
use Rattle.xa_log.specs.Content.{without_decisions}
use Rattle.xa_log.specs.Memory.{content_held}
use Rattle.xa_log.proofs.mem_log.MemLog.remove_all.Given as goal

abbrev pub invariant-loop-g : goal.invariant-loop-g
invariant-loop-g l = record {
  faults : l.self.faults ≡ l.fn.self.faults;
  removed : content_held l.self ≡ without_decisions (take l.g-index l.gtrids) (content_held l.fn.self);
}
