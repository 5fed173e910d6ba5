-- Each table of the jobs by itself.
use Rattle.std.specs.Prelude.{ℕ, ◌+◌, Result}
use Rattle.toml.specs.Data.{Data, Items}
use Rattle.xa_files.specs.declared.fault.RunFault.{RunFault}
use Rattle.xa_jobs.specs.JobFiles.{Votes, job_at}

-- what the table at place k, from 0, asks for
abbrev pub job_asked_at : (rms : ℕ) → Items → (k : ℕ) → Data → Result Votes RunFault
job_asked_at rms items k value = job_at rms (k + 1) value
