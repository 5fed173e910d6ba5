use Rattle.std.proofs.Common.{◌≡◌, ◌≤◌, ◌+◌, drop, vec_len}
use Rattle.std.specs.List.{All}
use Rattle.toml.specs.View.{items_view}
use Rattle.xa_workers.specs.declared.limits.TheConstants.{JOB_LIMIT}
use Rattle.xa_jobs.specs.JobFiles.{jobs_from, rows_in}
use Rattle.xa_jobs.proofs.JobLemmas.{with_jobs}
use Rattle.xa_jobs.proofs.jobs.rows_of.Given as goal

abbrev pub invariant-loop-i : goal.invariant-loop-i
invariant-loop-i l = record {
  read : with_jobs (rows_in l.jobs.items) (jobs_from l.rms (l.i + 1) (items_view (drop l.i l.items)))
      ≡ jobs_from l.rms 1 (items_view l.items);
  count : vec_len l.jobs ≡ l.i;
  few : vec_len l.jobs ≤ JOB_LIMIT;
  rows : All (λ votes. vec_len votes ≡ l.rms) l.jobs.items;
}
