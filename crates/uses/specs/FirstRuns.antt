-- What a run of a jobs file over a new log prints and leaves there.
use Rattle.std.specs.Prelude.{◌≡◌, ℕ, IsSomeAnd, List, Option, Ok}
use Rattle.xa_base.specs.declared.step.Outcome.{Outcome}
use Rattle.xa_jobs.specs.JobFiles.{job_plan_of, jobs_of}
use Rattle.xa_jobs.specs.JobRuns.{AreEnds}
use Rattle.xa_jobs.specs.Lines.{end_lines}
use Rattle.xa_log.specs.Content.{Content, nothing, with_bump}
use Rattle.xa_workers.specs.Rows.{HasRows, rows_of_jobs}
use Rattle.xa_workers.specs.declared.jobs.Jobs.{Jobs}

-- The text is a jobs file, what was printed are the lines of ends that its jobs may have, and the
-- log is of the first incarnation and has the rows of jobs that ended so, and nothing else.
pub record IsFirstRun (text printed : List ℕ) (log : Option Content) : Type 0 where
  pub jobs : Jobs
  pub ends : List Outcome
  pub reads : jobs_of text ≡ Ok (job_plan_of jobs)
  pub allowed : AreEnds (job_plan_of jobs) ends
  pub prints : printed ≡ end_lines ends
  pub rows : IsSomeAnd log (HasRows 1 (rows_of_jobs jobs 1 ends) (with_bump nothing))
