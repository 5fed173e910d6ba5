use Rattle.std.proofs.Common.{◌≡◌, ◌++◌}
use Rattle.std.specs.BTreeMap.{values}
use Rattle.xa_log.proofs.InOrder.{listed_in}
use Rattle.xa_log.proofs.mem_log.MemLog.all_participants.Given as goal

abbrev pub invariant-loop-waited_for : goal.invariant-loop-waited_for
invariant-loop-waited_for l = l.list.items ++ listed_in l.waited_for-iterator ≡ listed_in (values l.self.decisions)
