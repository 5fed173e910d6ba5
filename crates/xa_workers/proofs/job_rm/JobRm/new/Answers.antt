use Rattle.xa_workers.proofs.OwnBranches.{only_voted}
use Rattle.xa_workers.proofs.job_rm.JobRm.new.Goals as goal
use Rattle.xa_workers.proofs.job_rm.JobRm.new.Goals.{in-Some+in_ok-vote, in_default}

pub loop-job-preserved : goal.loop-job-preserved
loop-job-preserved g c =
    elim c.match-vote_to_set.branch [
      | in-Some+in_ok-vote w ↦ rw w.rm-is (only_voted _ _ _ _ _ c.loop-job.invariant w.in_ok-vote.ensures.ok)
      | in_default w ↦ rw w.rm-is c.loop-job.invariant
    ]
