-- What a list of jobs comes to: how each job ends, and the branches that it has.
use Rattle.std.specs.Prelude.{◌≡◌, ◌⊎◌, ◌<◌, ◌≤◌, ℕ, ◌+◌, ◌-◌, ◌%◌, Bool, true, false, ◌&&◌, if◌then◌else◌}
use Rattle.std.specs.Prelude.{All, List, [], Option, Some, None, is_some, map, length, slice_get, unwrap_or, vec_len}
use Rattle.std.specs.List.{list_any, filter_map, range_with_len}
use Rattle.std.specs.Option.{option_map_or}
use Rattle.xa_base.specs.Branch.{branch_eq, branch_of_xid}
use Rattle.xa_base.specs.Xid.{Xid}
use Rattle.xa_base.specs.declared.limits.TheConstants.{MAX_RMS, MAX_THREADS}
use Rattle.xa_base.specs.declared.branch.Branch.{Branch}
use Rattle.xa_base.specs.declared.branch.Gtrid.{Gtrid}
use Rattle.xa_base.specs.declared.step.Outcome.{Outcome}
use Rattle.xa_base.specs.declared.step.Outcome.TheVariants.{Commit, Rollback}
use Rattle.xa_base.specs.declared.vote.Vote.{Vote}
use Rattle.xa_base.specs.declared.vote.Vote.TheVariants.{Yes, No}
use Rattle.xa_workers.specs.declared.jobs.Jobs.{Jobs}
use Rattle.xa_workers.specs.declared.limits.TheConstants.{JOB_LIMIT}

-- what a run asks of its jobs
pub record IsRunnable (jobs : Jobs) : Type 0 where
  pub some_threads : 0 < jobs.threads
  pub few_threads : jobs.threads ≤ MAX_THREADS
  pub some_rms : 0 < jobs.rms
  pub few_rms : jobs.rms ≤ MAX_RMS
  pub few_jobs : vec_len jobs.votes ≤ JOB_LIMIT
  -- a vote or none for each resource manager
  pub rows : All (λ votes. vec_len votes ≡ jobs.rms) jobs.votes.items

-- ** votes

-- the votes of job i, and its vote at resource manager r, if it has a branch there
abbrev pub votes_of : Jobs → (i : ℕ) → List (Option Vote)
votes_of jobs i = option_map_or (λ row. row.items) (slice_get jobs.votes.items i) []

abbrev pub vote_at : Jobs → (i r : ℕ) → Option Vote
vote_at jobs i r = unwrap_or (slice_get (votes_of jobs i) r) None

abbrev pub is_no : Option Vote → Bool
is_no (Some (No code)) = true
is_no _ = false

abbrev pub is_yes : Option Vote → Bool
is_yes (Some Yes) = true
is_yes _ = false

-- the numbers of the jobs, and those of the resource managers
abbrev pub all_jobs : Jobs → List ℕ
all_jobs jobs = range_with_len 0 (length jobs.votes.items)

abbrev pub all_rms : Jobs → List ℕ
all_rms jobs = range_with_len 0 jobs.rms

-- ** ends

-- a job with a No is rolled back, and any other is committed
abbrev pub planned_end : List (Option Vote) → Outcome
planned_end votes = if list_any is_no votes then Rollback else Commit

abbrev pub ends_of : Jobs → List Outcome
ends_of jobs = map (λ votes. planned_end votes.items) jobs.votes.items

-- a recovery that sweeps the jobs may roll back one that would have committed
abbrev pub MayEndAs : (sweep : Bool) → (planned end : Outcome) → Type 0
MayEndAs sweep planned end = (end ≡ planned) ⊎ ((sweep ≡ true) × (end ≡ Rollback))

abbrev pub MayAllEnd : (sweep : Bool) → (planned ends : List Outcome) → Type 0
MayAllEnd sweep planned ends =
    (i : ℕ) (p e : Outcome) → slice_get planned i ≡ Some p → slice_get ends i ≡ Some e → MayEndAs sweep p e

-- each job ended, and as it may
pub record AreEndsOf (jobs : Jobs) (ends : List Outcome) : Type 0 where
  pub number : length ends ≡ length jobs.votes.items
  pub each : MayAllEnd jobs.sweep (ends_of jobs) ends

-- ** branches

-- job i's transaction, and its branch at resource manager r
abbrev pub gtrid_of : (incarnation i : ℕ) → Gtrid
gtrid_of incarnation i = record { incarnation = incarnation; sequence = i + 1 }

abbrev pub branch_of : Jobs → (incarnation i r : ℕ) → Branch
branch_of jobs incarnation i r = record { gtrid = gtrid_of incarnation i; thread = i % jobs.threads; rm = r }

-- whether a branch is that of the job whose transaction it names, at resource manager r
abbrev pub is_branch_of : Jobs → (incarnation r : ℕ) → Branch → Bool
is_branch_of jobs incarnation r b =
    is_some (vote_at jobs (b.gtrid.sequence - 1) r) && branch_eq b (branch_of jobs incarnation (b.gtrid.sequence - 1) r)

-- whether an identifier is that of a job's branch at resource manager r
abbrev pub is_xid_of : Jobs → (incarnation r : ℕ) → Xid → Bool
is_xid_of jobs incarnation r x = option_map_or (is_branch_of jobs incarnation r) (branch_of_xid x) false

-- the branch of job i at resource manager r, if it votes yes
abbrev pub yes_branch : Jobs → (incarnation i r : ℕ) → Option Branch
yes_branch jobs incarnation i r = if is_yes (vote_at jobs i r) then Some (branch_of jobs incarnation i r) else None

-- the branches of job i that vote yes
abbrev pub yes_branches : Jobs → (incarnation i : ℕ) → List Branch
yes_branches jobs incarnation i = filter_map (yes_branch jobs incarnation i) (all_rms jobs)
