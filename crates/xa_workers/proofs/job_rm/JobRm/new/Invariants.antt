use Rattle.xa_workers.specs.Fates.{HasOnly}
use Rattle.xa_workers.proofs.job_rm.JobRm.new.Given as goal

abbrev pub invariant-loop-job : goal.invariant-loop-job
invariant-loop-job g l = HasOnly (g.J.Run.is_own l.number) l.rm
