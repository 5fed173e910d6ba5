use Rattle.std.proofs.Common.{◌≡◌, ◌≤◌, length, vec_len}
use Rattle.xa_log.specs.Content.{Content}
use Rattle.xa_log.specs.Memory.{MadeUpTo, content_held}
use Rattle.xa_log.proofs.mem_log.MemLog.take_back.Given as goal

abbrev pub invariant-loop-logged : goal.invariant-loop-logged
invariant-loop-logged l = record {
  within : vec_len l.answers ≤ length l.decisions;
  faults : l.self.faults ≡ l.fn.self.faults;
  made : (before : Content) → MadeUpTo l.decisions (vec_len l.fn.answers) l.fn.answers.items before (content_held l.fn.self)
      → MadeUpTo l.decisions (vec_len l.answers) l.answers.items before (content_held l.self);
}

abbrev pub decreases-loop-logged : goal.decreases-loop-logged
decreases-loop-logged l = vec_len l.answers
