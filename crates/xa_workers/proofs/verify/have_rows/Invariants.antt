use Rattle.std.proofs.Common.{◌≡◌, ℕ, ◌<◌, false, slice_index_or}
use Rattle.xa_workers.specs.Rows.{job_has_row}
use Rattle.xa_workers.proofs.verify.have_rows.Given as goal

abbrev pub invariant-loop-job : goal.invariant-loop-job
invariant-loop-job l = (i : ℕ) → i < l.job → slice_index_or l.written i false ≡ job_has_row l.jobs l.ends i
