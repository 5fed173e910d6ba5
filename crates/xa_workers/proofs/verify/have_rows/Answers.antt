use Rattle.std.proofs.Common.{arith}
use Rattle.xa_workers.proofs.Places.{marks_agree}
use Rattle.xa_workers.proofs.verify.have_rows.Goals as goal

pub returns : goal.returns
returns c = λ _. marks_agree c.args.jobs.now c.args.ends.now c.args.written.now c.loop-job.job (omega arith) (omega arith) c.loop-job.invariant
