use Rattle.xa_workers.proofs.Sweeping.{swept_more}
use Rattle.xa_workers.proofs.sweep.Sweeper.sweep.Goals as goal

pub loop-job-preserved : goal.loop-job-preserved
loop-job-preserved g c =
    let told = c.rollback.ensures.entry in (
      c.loop-job.invariant.0,
      swept_more c.loop-job.job c.loop-job.self.seat.view c.rollback.new.seat.view told.0 c.rollback.result told.1 told.2 c.loop-job.invariant.1,
    )
