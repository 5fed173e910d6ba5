-- What a run of jobs comes to.
use Rattle.std.specs.Prelude.{◌≡◌, ℕ, ◌*◌, All, List, length}
use Rattle.xa_line.specs.Traffic.{Traffic, answered, answers_heard, calls_issued, calls_taken}
use Rattle.xa_log.specs.declared.decision_log.DecisionLog as DecisionLog
use Rattle.xa_workers.specs.Fates.{HaveFates, fates_of}
use Rattle.xa_workers.specs.Rows.{Logs, rows_of_jobs}
use Rattle.xa_workers.specs.declared.jobs.Jobs.{Jobs}
use Rattle.xa_workers.specs.declared.outcomes.Outcomes.{Outcomes}

-- In the incarnation that its log gave it, its fates are those of the votes and the ends, the
-- resource managers have these and no other branch, and the log has the rows that it came with and
-- those of the jobs.
pub record IsOutcomeOf {L : Type 0} (g : DecisionLog.Ghosts L) (jobs : Jobs) (log : L) (o : Outcomes L) : Type 0 where
  pub incarnation : ℕ
  pub fates : o.fates.items ≡ fates_of jobs incarnation o.ends.items
  pub rms : HaveFates jobs incarnation o.rms.items o.fates.items
  pub logs : Logs g incarnation (rows_of_jobs jobs incarnation o.ends.items) log o.log

-- each call that was issued on a line was taken, and each answer heard
abbrev pub IsThrough : Traffic → Type 0
IsThrough line = (calls_taken line ≡ calls_issued line) × (answers_heard line ≡ answered line)

-- the lines that come back: one of each thread of control to each resource manager, and nothing
-- waits on them
pub record AreLinesOf (jobs : Jobs) (lines : List Traffic) : Type 0 where
  pub number : length lines ≡ jobs.threads * jobs.rms
  pub through : All IsThrough lines
