-- Reading in turn, seen table by table.
use Rattle.std.proofs.Common.{◌≡◌, ℕ, ◌+◌, refl, ap, arith}
use Rattle.toml.specs.Data.{Data, Items}
use Rattle.xa_files.proofs.TablesInTurnLemmas as listed
use Rattle.xa_files.specs.TablesInTurn.{EachIsRead, FirstIsFaulty}
use Rattle.xa_jobs.specs.JobFiles.{job_at, jobs_from}
use Rattle.xa_jobs.specs.JobTables.{job_asked_at}

-- nothing goes on from one table to the next
asked : (rms : ℕ) (items : Items) (k : ℕ) (value : Data) → job_asked_at rms items k value ≡ job_at rms (1 + k) value
asked rms items k value = let place : k + 1 ≡ 1 + k = omega arith in ap (λ n. job_at rms n value) place

pub each_is_read : (rms : ℕ) → EachIsRead (job_asked_at rms) (jobs_from rms 1)
unfolding jobs_from
each_is_read rms =
    listed.each_is_read {S = Unit {0}} (λ n state. job_at rms n) (λ state value. state) (λ n state. jobs_from rms n)
    (λ n state. refl) (λ n state value items. refl) (job_asked_at rms) tt (asked rms)

pub first_is_faulty : (rms : ℕ) → FirstIsFaulty (job_asked_at rms) (jobs_from rms 1)
unfolding jobs_from
first_is_faulty rms =
    listed.first_is_faulty {S = Unit {0}} (λ n state. job_at rms n) (λ state value. state) (λ n state. jobs_from rms n)
    (λ n state. refl) (λ n state value items. refl) (job_asked_at rms) tt (asked rms)
