use Rattle.std.proofs.lemmas.Result.{err_from_is_err_and}
use Rattle.xa_jobs.specs.JobFiles.{job_plan_of, jobs_of}
use Rattle.xa_files.proofs.ReadingLemmas.{ends_with}
use Rattle.xa_files.proofs.TablesInTurnLemmas.{same_err}
use Rattle.xa_jobs.proofs.RunLemmas.{begun_at_output, explains, not_of_output, not_of_work, run_explains, no_fault, ends_begun, file_run, where_by_work, where_well}
use Rattle.xa_jobs.proofs.run.run_job_file.Goals as goal

pub returns-in_err-jobs-clause-fault : goal.returns-in_err-jobs-clause-fault
returns-in_err-jobs-clause-fault g c =
    let p = err_from_is_err_and c.from_residual.result c.from_residual.ensures.1 in
    rw (p.1, p.2) (explains c.in_err-jobs.field-0.0 c.args.text.now c.in_err-jobs.ensures.read)

pub returns-in_err-jobs-clause-refused : goal.returns-in_err-jobs-clause-refused
returns-in_err-jobs-clause-refused g c =
    let p = err_from_is_err_and c.from_residual.result c.from_residual.ensures.1 in
    λ e known. rw (p.1, p.2) (ends_with c.in_err-jobs.field-0.0 e (jobs_of c.args.text.now)
    c.in_err-jobs.ensures.read known)

pub returns-in_err-jobs-clause-begun : goal.returns-in_err-jobs-clause-begun
returns-in_err-jobs-clause-begun g c =
    let p = err_from_is_err_and c.from_residual.result c.from_residual.ensures.1 in
    rw (p.1, p.2) (λ e. absurd (not_of_output c.in_err-jobs.field-0.0 c.args.text.now c.in_err-jobs.ensures.read e))

pub returns-clause-ok : goal.returns-clause-ok
returns-clause-ok g c =
    let contents = g.W.Write.contents in
    file_run g.L.DecisionLog c.args.text.now c.in_ok-jobs.jobs (contents c.args.out.now) (contents c.run_and_print.new.out)
    c.args.log c.run_and_print.result c.in_ok-jobs.ensures.read c.run_and_print.ensures.ends

pub returns-clause-fault : goal.returns-clause-fault
returns-clause-fault g c = run_explains (job_plan_of c.in_ok-jobs.jobs) (jobs_of c.args.text.now) c.run_and_print.result
    c.in_ok-jobs.ensures.read c.run_and_print.ensures.fault

pub returns-clause-refused : goal.returns-clause-refused
returns-clause-refused g c = λ e other. absurd
    (no_fault (job_plan_of c.in_ok-jobs.jobs) (jobs_of c.args.text.now) e c.in_ok-jobs.ensures.read other)

pub returns-clause-begun : goal.returns-clause-begun
returns-clause-begun g c =
    let contents = g.W.Write.contents in
    begun_at_output c.run_and_print.result _ _
    (λ written. ends_begun c.args.text.now (job_plan_of c.in_ok-jobs.jobs) (contents c.args.out.now)
    (contents c.run_and_print.new.out) c.in_ok-jobs.ensures.read written)
    c.run_and_print.ensures.begun

pub returns-in_err-jobs-clause-work : goal.returns-in_err-jobs-clause-work
returns-in_err-jobs-clause-work g c =
    let p = err_from_is_err_and c.from_residual.result c.from_residual.ensures.1 in
    rw (p.1, p.2) (λ e. absurd (not_of_work c.in_err-jobs.field-0.0 c.args.text.now c.in_err-jobs.ensures.read (same_err _ _ e)))

pub returns-clause-can_begin : goal.returns-clause-can_begin
returns-clause-can_begin g c = where_well c.run_and_print.result _ c.run_and_print.ensures.can_begin

pub returns-clause-work : goal.returns-clause-work
returns-clause-work g c = where_by_work c.run_and_print.result _ c.run_and_print.ensures.can_begin
