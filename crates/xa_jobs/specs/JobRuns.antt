-- What a run of a jobs file prints and leaves in its log, and why it ends early.
use Rattle.std.specs.Prelude.{◌≡◌, ℕ, false, List, length, map, Option, Ok}
use Rattle.std.specs.Io.KnownBytes.{Appends}
use Rattle.xa_base.specs.declared.step.Outcome.{Outcome}
use Rattle.xa_files.specs.Outputs.{AppendsBeginning}
use Rattle.xa_files.specs.declared.fault.RunFault.{RunFault}
use Rattle.xa_files.specs.declared.fault.RunFault.TheVariants.{Log, Memory, Work, Output}
use Rattle.xa_jobs.specs.JobFiles.{JobPlan, job_plan_of, jobs_of}
use Rattle.xa_jobs.specs.Lines.{end_lines}
use Rattle.xa_log.specs.declared.decision_log.DecisionLog as DecisionLog
use Rattle.xa_workers.specs.Jobs.{MayAllEnd, planned_end}
use Rattle.xa_workers.specs.Rows.{Logs, rows_of_jobs}
use Rattle.xa_workers.specs.declared.fault.WorkFault.{WorkFault}
use Rattle.xa_workers.specs.declared.fault.WorkFault.TheVariants as work
use Rattle.xa_workers.specs.declared.jobs.Jobs.{Jobs}

-- how the jobs end by their votes alone
abbrev pub planned_ends : JobPlan → List Outcome
planned_ends plan = map planned_end plan.votes

-- Each job ended as its votes say. Only if a recovery sweeps the jobs may one that would have
-- committed be rolled back.
pub record AreEnds (plan : JobPlan) (ends : List Outcome) : Type 0 where
  pub number : length ends ≡ length plan.votes
  pub each : MayAllEnd plan.sweep (planned_ends plan) ends
  pub plain : plan.sweep ≡ false → ends ≡ planned_ends plan

-- What was written are the lines of ends that the jobs may have, and the log has the rows that it
-- came with and, in the incarnation that it gave, those of jobs that ended so.
pub record RunsJobs {L : Type 0} (g : DecisionLog.Ghosts L) (jobs : Jobs) (old new : Option (List ℕ)) (first log : L)
    : Type 0 where
  pub ends : List Outcome
  pub allowed : AreEnds (job_plan_of jobs) ends
  pub writes : Appends old new (end_lines ends)
  pub incarnation : ℕ
  pub logs : Logs g incarnation (rows_of_jobs jobs incarnation ends) first log

-- What was written is a beginning of lines of ends that the jobs may have.
pub record BeginsEnds (plan : JobPlan) (old new : Option (List ℕ)) : Type 0 where
  pub ends : List Outcome
  pub allowed : AreEnds plan ends
  pub begins : AppendsBeginning old new (end_lines ends)

-- The text is a jobs file, what was written are the lines of its jobs, and the log has their rows.
pub record RunsFile {L : Type 0} (g : DecisionLog.Ghosts L) (text : List ℕ) (old new : Option (List ℕ)) (first log : L)
    : Type 0 where
  pub jobs : Jobs
  pub reads : jobs_of text ≡ Ok (job_plan_of jobs)
  pub runs : RunsJobs g jobs old new first log

-- The text is a jobs file, and what was written is a beginning of such lines.
pub record Begins (text : List ℕ) (old new : Option (List ℕ)) : Type 0 where
  pub plan : JobPlan
  pub reads : jobs_of text ≡ Ok plan
  pub lines : BeginsEnds plan old new

-- what a fault of a run is to the file
abbrev pub run_fault_of : WorkFault → RunFault
run_fault_of work.Memory = Memory
run_fault_of work.Log = Log
run_fault_of work.Stuck = Work
run_fault_of work.Mixed = Work

-- a fault that a run can have once the file is read and before the writes
abbrev pub IsWorkFault : RunFault → Type 0
IsWorkFault Log = Unit {0}
IsWorkFault Memory = Unit {0}
IsWorkFault Work = Unit {0}
IsWorkFault _ = ⊥

-- a fault that a run can have once the file is read
abbrev pub IsRunFault : RunFault → Type 0
IsRunFault Log = Unit {0}
IsRunFault Memory = Unit {0}
IsRunFault Work = Unit {0}
IsRunFault Output = Unit {0}
IsRunFault _ = ⊥
