-- The rows that a run of jobs adds to a log.
use Rattle.std.specs.Prelude.{◌≡◌, ◌≢◌, ℕ, ◌+◌, ◌<◌, ◌≤◌, Bool, true, false, ◌&&◌, if◌then◌else◌}
use Rattle.std.specs.Prelude.{IsSomeAnd, length, List, Option, Some, None, slice_get, slice_index_or}
use Rattle.std.specs.FinMap.{get}
use Rattle.std.specs.List.{list_any}
use Rattle.xa_base.specs.Branch.{branch_cmp}
use Rattle.xa_base.specs.declared.branch.Branch.{Branch}
use Rattle.xa_base.specs.declared.branch.Gtrid.{Gtrid}
use Rattle.xa_base.specs.declared.step.Outcome.{Outcome}
use Rattle.xa_base.specs.declared.step.Outcome.TheVariants.{Commit}
use Rattle.xa_log.specs.Content.{Content, with_bump, with_commits}
use Rattle.xa_log.specs.Contract.{Honestly, Moment, one_more_fault}
use Rattle.xa_log.specs.KeySet.{KeySet, from_list}
use Rattle.xa_log.specs.declared.decision.Decision.{Decision}
use Rattle.xa_log.specs.declared.decision_log.DecisionLog as DecisionLog
use Rattle.xa_workers.specs.Jobs.{gtrid_of, is_yes, votes_of, yes_branches}
use Rattle.xa_workers.specs.declared.jobs.Jobs.{Jobs}
use Rattle.xa_workers.specs.declared.run_rows.RunRows.{RunRows}

-- ** which jobs have rows

abbrev pub is_committed : Option Outcome → Bool
is_committed (Some Commit) = true
is_committed _ = false

-- whether job i has a row, if the jobs end so: it committed, and some branch voted yes
abbrev pub job_has_row : Jobs → List Outcome → (i : ℕ) → Bool
job_has_row jobs ends i = is_committed (slice_get ends i) && list_any is_yes (votes_of jobs i)

-- the participants of job i: its branches that vote yes
abbrev pub participants_of_job : Jobs → (incarnation i : ℕ) → KeySet branch_cmp
participants_of_job jobs incarnation i = from_list (yes_branches jobs incarnation i)

-- the row of each job that has one: its participants
abbrev pub rows_of_jobs : Jobs → (incarnation : ℕ) → List Outcome → (i : ℕ) → Option (KeySet branch_cmp)
rows_of_jobs jobs incarnation ends i = if job_has_row jobs ends i then Some (participants_of_job jobs incarnation i) else None

-- the rows of the jobs that are noted as written
abbrev pub written_rows : (participants_of_job : ℕ → KeySet branch_cmp) → List Bool → (i : ℕ) → Option (KeySet branch_cmp)
written_rows participants_of_job written i = if slice_index_or written i false then Some (participants_of_job i) else None

-- ** what they make of a log

-- no row and no record is of this incarnation or a later one
pub record IsFresh (incarnation : ℕ) (c : Content) : Type 0 where
  pub rows : (g : Gtrid) → incarnation ≤ g.incarnation → get c.decisions g ≡ None
  pub records : (b : Branch) → incarnation ≤ b.gtrid.incarnation → get c.heuristics b ≡ None

-- the log has these rows of jobs, and besides exactly what it came with, if no row and no record
-- was of this incarnation
pub record HasRows (incarnation : ℕ) (rows : ℕ → Option (KeySet branch_cmp)) (before after : Content) : Type 0 where
  pub fresh : IsFresh incarnation before
  pub jobs : (i : ℕ) → get after.decisions (gtrid_of incarnation i) ≡ rows i
  pub others : (g : Gtrid) → ((i : ℕ) → g ≢ gtrid_of incarnation i) → get after.decisions g ≡ get before.decisions g
  pub heuristics : after.heuristics ≡ before.heuristics
  pub same_incarnation : after.incarnation ≡ before.incarnation

-- if a log has the rows of the jobs that are noted in one list, these decisions make it have those
-- that are noted in another
abbrev pub Adds : Jobs → (incarnation : ℕ) → (noted : List Bool) → List Decision → (now_noted : List Bool) → Type 0
Adds jobs incarnation noted decisions now_noted = (before c : Content)
    → HasRows incarnation (written_rows (participants_of_job jobs incarnation) noted) before c
    → HasRows incarnation (written_rows (participants_of_job jobs incarnation) now_noted) before (with_commits decisions c)

-- no job has a row
abbrev pub no_rows : (i : ℕ) → Option (KeySet branch_cmp)
no_rows i = None

-- what a log has become in a run: its incarnation has risen by one, to that of the run, and it has
-- the rows that it came with, and these rows of jobs
pub record Logs {L : Type 0} (g : DecisionLog.Ghosts L) (incarnation : ℕ) (rows : ℕ → Option (KeySet branch_cmp))
    (first log : L) : Type 0 where
  pub order : (g.moment first).is_in_order → (g.moment log).is_in_order
  pub honest : (g.moment log).is_honest → (g.moment first).is_honest
  pub rows_are : Honestly (g.moment first) (g.moment log)
      (IsSomeAnd (g.moment first).content (λ before. (incarnation ≡ before.incarnation + 1)
      × IsSomeAnd (g.moment log).content (λ after. HasRows incarnation rows (with_bump before) after)))

-- A run can begin over a log: no call fails, the incarnation rises by one, and no row and no record
-- is of that one or a later one.
pub record CanBegin {L : Type 0} (g : DecisionLog.Ghosts L) (log : L) : Type 0 where
  pub left : L
  pub incarnation : ℕ
  pub begins : Logs g incarnation no_rows log left
  pub faults : (g.moment left).fault_count ≡ (g.moment log).fault_count

-- a call of the log has failed
abbrev pub HasFailed : {L : Type 0} → (moment : L → Moment) → (old new : L) → Type 0
HasFailed moment old new = (moment new).fault_count ≡ one_more_fault (moment old).fault_count

-- no call of the log has failed
abbrev pub FailsNot : {L : Type 0} → (moment : L → Moment) → (old new : L) → Type 0
FailsNot moment old new = (moment new).fault_count ≡ (moment old).fault_count

-- the log of a run has come to have the rows of the jobs that are noted as written
abbrev pub HasRowsOf : {L : Type 0} → DecisionLog.Ghosts L → Jobs → (incarnation : ℕ) → RunRows L → Type 0
HasRowsOf g jobs incarnation run_rows =
    Logs g incarnation (written_rows (participants_of_job jobs incarnation) run_rows.written.items) run_rows.first.value run_rows.log

-- job i is noted as written
pub record IsNoted (written : List Bool) (i : ℕ) : Type 0 where
  pub within : i < length written
  pub noted : slice_index_or written i false ≡ true
