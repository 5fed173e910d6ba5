use Rattle.std.proofs.Common.{◌≡◌, ◌+◌, ◌++◌, ◌∷◌, [], arith, ap, ◌∙◌, vec_len}
use Rattle.std.proofs.lemmas.List.{map_push}
use Rattle.std.proofs.lemmas.List.Elements.{All-push}
use Rattle.std.proofs.lemmas.Result.{err_from_is_err_and}
use Rattle.toml.specs.View.{items_view, view}
use Rattle.xa_jobs.specs.JobFiles.{job_at, jobs_from, rows_in}
use Rattle.xa_files.specs.Misfits.{document_fault_of}
use Rattle.xa_files.proofs.DocumentLemmas.{fails_on}
use Rattle.xa_jobs.proofs.JobLemmas.{job_goes_on, job_stops, jobs_end}
use Rattle.xa_jobs.proofs.jobs.rows_of.Goals as goal

pub returns-in_err-job_at-clause-jobs : goal.returns-in_err-job_at-clause-jobs
returns-in_err-job_at-clause-jobs c =
    let p = err_from_is_err_and c.from_residual.result c.from_residual.ensures.1 in
    let all = jobs_from c.args.rms 1 (items_view c.args.items.now) in
    let one = job_at c.args.rms (c.loop-i.i + 1) (view c.index-items-i.result) in
    let fault = document_fault_of c.in_err-job_at.field-0.0 in
    rw (p.1, p.2) (fails_on fault one all (λ is.
    job_stops c.args.rms (rows_in c.loop-i.jobs.items) fault (c.loop-i.i + 1) c.args.items.now
    c.loop-i.i c.index-items-i.result all
    c.loop-i-test.true c.index-items-i.is is c.loop-i.invariant.read)
    c.in_err-job_at.ensures.job)

pub loop-i-preserved : goal.loop-i-preserved
loop-i-preserved c =
    let grown : c.push.new.self.items ≡ c.loop-i.jobs.items ++ c.in_ok-job_at.field-0 ∷ [] =
    c.in_ok-push.ensures.items in
    let seen : rows_in c.push.new.self.items ≡ rows_in c.loop-i.jobs.items ++ c.in_ok-job_at.field-0.items ∷ [] =
    ap rows_in grown ∙ map_push _ c.loop-i.jobs.items c.in_ok-job_at.field-0 in
    record {
      read = rw seen (job_goes_on c.args.rms (rows_in c.loop-i.jobs.items) c.in_ok-job_at.field-0.items
          (c.loop-i.i + 1) c.args.items.now c.loop-i.i c.index-items-i.result
          (jobs_from c.args.rms 1 (items_view c.args.items.now))
          c.loop-i-test.true c.index-items-i.is (c.in_ok-job_at.ensures.job) c.loop-i.invariant.read);
      count = omega (arith, c.in_ok-push.ensures.len);
      few = omega (arith, c.in_ok-push.ensures.len, c.in_ok-job_at.ensures.few);
      rows = rw grown (All-push (λ votes. vec_len votes ≡ c.args.rms) c.loop-i.jobs.items c.in_ok-job_at.field-0
          c.loop-i.invariant.rows c.in_ok-job_at.ensures.number);
    }

pub returns-clause-jobs : goal.returns-clause-jobs
returns-clause-jobs c =
    jobs_end c.args.rms (rows_in c.loop-i.jobs.items) (c.loop-i.i + 1) c.args.items.now c.loop-i.i
    (jobs_from c.args.rms 1 (items_view c.args.items.now)) c.loop-i-test.false c.loop-i.invariant.read
