use Rattle.xa_line.proofs.GridLaws.{renews_one_more}
use Rattle.xa_line.proofs.lines.Lines.renew_rm.Goals as goal

pub loop-thread-preserved : goal.loop-thread-preserved
loop-thread-preserved c =
    renews_one_more c.args.self.now c.loop-thread.self c.args.rm c.loop-thread.thread c.renew.new.self
    (rw (← c.threads-thread-end.ensures.value) c.loop-thread-test.true, c.requires) c.renew.ensures c.loop-thread.invariant
