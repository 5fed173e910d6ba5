use Rattle.std.proofs.lemmas.Result.{err_from_is_err_and}
use Rattle.xa_files.proofs.ReadingLemmas.{ends_with}
use Rattle.xa_jobs.proofs.RunLemmas.{explains}
use Rattle.xa_jobs.specs.JobFiles.{jobs_of}
use Rattle.xa_diagnostics.proofs.jobs_check.check_jobs.Goals as goal

pub returns-in_err-jobs-clause-fault : goal.returns-in_err-jobs-clause-fault
returns-in_err-jobs-clause-fault g c =
    let p = err_from_is_err_and c.from_residual.result c.from_residual.ensures.1 in
    rw (p.1, p.2) (explains c.in_err-jobs.field-0.0 c.args.text.now c.in_err-jobs.ensures.read)

pub returns-in_err-jobs-clause-refused : goal.returns-in_err-jobs-clause-refused
returns-in_err-jobs-clause-refused g c =
    let p = err_from_is_err_and c.from_residual.result c.from_residual.ensures.1 in
    λ e known. rw (p.1, p.2) (ends_with c.in_err-jobs.field-0.0 e (jobs_of c.args.text.now) c.in_err-jobs.ensures.read known)
