-- The log of a system, from its start on.
use Rattle.std.specs.Prelude.{◌≡◌, ◌⊎◌, MatchOption, Some}
use Rattle.xa_log.specs.Contract.{Honestly}
use Rattle.xa_log.specs.declared.decision_log.DecisionLog as DecisionLog
use Rattle.xa_model.specs.Promises.Processes.{Resumes}
use Rattle.xa_scenario.specs.Runs.{StartsOverLog}
use Rattle.xa_system.specs.NextProcess.{FindsNewer}
use Rattle.xa_tm.specs.StartFaults.{IsToBlame}
use Rattle.xa_system.specs.SystemView.{MayRestart, Observes, SystemView, origin_in, trace_in}
use Rattle.xa_tm.specs.Slots.{log_held}
use Rattle.xa_rm.specs.Look.{Look}

-- A system has just started over this log; and a restart may follow.
pub record HasStarted {R L : Type 0} (see : Observes R L) (log : L) (s : SystemView R L) : Type 0 where
  pub over : StartsOverLog see.moment log (origin_in see.look s)
  pub is_left : log_held s.log ≡ Some over.left
  pub handed : s.handed ≡ log
  pub near : Honestly (see.moment log) (see.place s.log) (MayRestart see s)

-- A system has started over what another one left: over its log, and, if that was in order as it
-- was handed in and is honest, after its history.
pub record HasGoneOn {R L : Type 0} (see : Observes R L) (old new : SystemView R L) : Type 0 where
  pub found : L
  pub left : log_held old.log ≡ Some found
  pub started : HasStarted see found new
  pub order : (see.moment old.handed).is_in_order → (see.moment found).is_in_order
  pub resumes : (see.moment old.handed).is_in_order → MayRestart see old → (see.place new.log).is_honest
      → Resumes (trace_in see.look old) (origin_in see.look new)

-- It is the log that was handed in. What it rests on was honest before, if it is so after; and then
-- a restart may follow after, if it might before.
pub record KeepsLog {R L : Type 0} (see : Observes R L) (old new : SystemView R L) : Type 0 where
  pub handed : new.handed ≡ old.handed
  pub honest : (see.place new.log).is_honest → (see.place old.log).is_honest
  pub near : Honestly (see.moment old.handed) (see.place new.log) (MayRestart see old → MayRestart see new)

-- No system can go on from what this one leaves: it holds no log, or its log is to blame, or a
-- branch at its resource managers is newer than that.
abbrev pub CannotGoOn : {R L : Type 0} → (R → Look) → DecisionLog.Ghosts L → SystemView R L → Type 0
CannotGoOn look logs s = MatchOption (log_held s.log) (Unit {0}) (λ log. IsToBlame logs log ⊎ FindsNewer look logs s.rms log)
