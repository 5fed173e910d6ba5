-- What a check of a jobs file prints.
use Rattle.std.specs.Prelude.{◌≡◌, ℕ, List, ◌++◌, codes, length, Option, Ok}
use Rattle.std.specs.Fmt.{decimal}
use Rattle.std.specs.Io.KnownBytes.{Appends}
use Rattle.xa_jobs.specs.JobFiles.{JobPlan, jobs_of}

-- the one line of a check
abbrev pub jobs_line : JobPlan → List ℕ
jobs_line plan =
    codes "ok " ++ decimal plan.threads ++ codes " " ++ decimal plan.rms ++ codes " " ++ decimal (length plan.votes)
    ++ codes " jobs\n"

-- The text is a jobs file, and its sizes were written.
pub record PrintsJobsCheck (text : List ℕ) (old new : Option (List ℕ)) : Type 0 where
  pub plan : JobPlan
  pub reads : jobs_of text ≡ Ok plan
  pub writes : Appends old new (jobs_line plan)
