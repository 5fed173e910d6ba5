-- The fates of the jobs' branches, and the resource managers that have them.
use Rattle.std.specs.Prelude.{◌≡◌, ◌≢◌, All, IsSomeAnd, ℕ, Bool, true, List, Option, Some, length, map, slice_get}
use Rattle.std.specs.List.{filter_map, flat_map}
use Rattle.std.specs.List.Sorted.{IsStrictlySortedBy}
use Rattle.std.specs.Option.{option_map, option_and_then}
use Rattle.xa_base.specs.Branch.{branch_of_xid, xid_of_branch}
use Rattle.xa_base.specs.Call.{xid_in}
use Rattle.xa_base.specs.HeldBranch.{HeldBranch}
use Rattle.xa_base.specs.Standing.{fate_of}
use Rattle.xa_base.specs.Xid.{Xid, xid_cmp}
use Rattle.xa_base.specs.declared.call.Call.{Call}
use Rattle.xa_base.specs.declared.state.Fate.{Fate}
use Rattle.xa_base.specs.declared.step.Outcome.{Outcome}
use Rattle.xa_base.specs.declared.step.Outcome.TheVariants.{Commit, Rollback}
use Rattle.xa_base.specs.declared.vote.Vote.{Vote}
use Rattle.xa_base.specs.declared.vote.Vote.TheVariants.{Yes, ReadOnly, No}
use Rattle.xa_rm.specs.contracts.mem_rm.MemRmResourceManager.TheImpl as memory
use Rattle.xa_rm.specs.declared.mem_rm.MemRm.{MemRm}
use Rattle.xa_workers.specs.Jobs.{all_jobs, all_rms, branch_of, is_xid_of, vote_at}
use Rattle.xa_workers.specs.declared.jobs.Jobs.{Jobs}

-- ** the rule

-- the fate of a branch that votes so, in a job that ends so
abbrev pub fate_after : Outcome → Vote → Fate
fate_after end (No code) = Fate.RolledBack
fate_after end ReadOnly = Fate.ReadOnly
fate_after Commit Yes = Fate.Committed
fate_after Rollback Yes = Fate.RolledBack

-- the fate of job i's branch at resource manager r, if it has one, if the jobs end so
abbrev pub fate_at : Jobs → (incarnation : ℕ) → List Outcome → (i r : ℕ) → Option (Xid × Fate)
fate_at jobs incarnation ends i r =
    option_and_then
    (λ end. option_map (λ vote. (xid_of_branch (branch_of jobs incarnation i r), fate_after end vote)) (vote_at jobs i r))
    (slice_get ends i)

abbrev pub job_fates : Jobs → (incarnation : ℕ) → List Outcome → (i : ℕ) → List (Xid × Fate)
job_fates jobs incarnation ends i = filter_map (fate_at jobs incarnation ends i) (all_rms jobs)

-- the fates of all branches, if the jobs end so, in the order of their identifiers
abbrev pub fates_of : Jobs → (incarnation : ℕ) → List Outcome → List (Xid × Fate)
fates_of jobs incarnation ends = flat_map (job_fates jobs incarnation ends) (all_jobs jobs)

-- the listed identifiers are ascending, each listed once
abbrev pub AreInOrder : List (Xid × Fate) → Type 0
AreInOrder fates = IsStrictlySortedBy xid_cmp (map (λ f. f.0) fates)

-- ** resource managers

-- what a resource manager in memory holds of each identifier
abbrev pub held_in_memory : MemRm → Xid → HeldBranch
held_in_memory rm = ((memory.ghosts).look rm).held

abbrev pub fate_in : MemRm → Xid → Fate
fate_in rm x = fate_of (held_in_memory rm x).standing

-- no branch was started there but those with an own identifier
pub record HasOnly (is_own : Xid → Bool) (rm : MemRm) : Type 0 where
  pub only : (x : Xid) → fate_in rm x ≢ Fate.Unstarted → is_own x ≡ true

-- the call names a branch with an own identifier, or none
abbrev pub NamesOnly : (is_own : Xid → Bool) → Call Xid → Type 0
NamesOnly is_own call = (x : Xid) → xid_in call ≡ Some x → is_own x ≡ true

-- an identifier has its fate at the resource manager that it names
abbrev pub HasFate : List MemRm → (Xid × Fate) → Type 0
HasFate rms f = IsSomeAnd (branch_of_xid f.0) (λ b. IsSomeAnd (slice_get rms b.rm) (λ rm. fate_in rm f.0 ≡ f.1))

-- the resource managers are as many as the jobs name. Each listed branch has its fate there, and no
-- other was started
pub record HaveFates (jobs : Jobs) (incarnation : ℕ) (rms : List MemRm) (fates : List (Xid × Fate)) : Type 0 where
  pub number : length rms ≡ jobs.rms
  pub listed : All (HasFate rms) fates
  pub others : (r : ℕ) (rm : MemRm) → slice_get rms r ≡ Some rm → HasOnly (is_xid_of jobs incarnation r) rm
