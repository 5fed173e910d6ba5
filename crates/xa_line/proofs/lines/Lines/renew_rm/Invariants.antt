use Rattle.xa_line.proofs.GridLaws.{RenewsBelow}
use Rattle.xa_line.proofs.lines.Lines.renew_rm.Given as goal

abbrev pub invariant-loop-thread : goal.invariant-loop-thread
invariant-loop-thread l = RenewsBelow l.initial.self l.self l.rm l.thread
