use Rattle.std.proofs.Common.{◌≡◌, ◌≤◌, length, vec_capacity, vec_len}
use Rattle.xa_log.specs.Memory.{MadeUpTo, content_held}
use Rattle.xa_log.proofs.mem_log.MemLog.put_all.Given as goal

abbrev pub invariant-loop-decision : goal.invariant-loop-decision
invariant-loop-decision l = record {
  room : length l.decisions ≤ vec_capacity l.answers;
  count : vec_len l.answers ≡ l.decision-index;
  faults : l.self.faults ≡ l.fn.self.faults;
  made : MadeUpTo l.decisions l.decision-index l.answers.items (content_held l.fn.self) (content_held l.self);
}
