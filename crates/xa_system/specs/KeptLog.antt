-- The log of a system: as the system begins over it, and over a step and over many.
use Rattle.std.specs.Prelude.{◌≡◌, ◌⊎◌, IsSome, IsSomeAnd, None, Some, false}
use Rattle.xa_base.specs.Xid.{Xid}
use Rattle.xa_base.specs.declared.step.Step.{Step}
use Rattle.xa_log.specs.Content.{Content}
use Rattle.xa_log.specs.Contract.{Honestly}
use Rattle.xa_model.specs.Facts.{up}
use Rattle.xa_model.specs.Replies.History.{step_of}
use Rattle.xa_model.specs.Replies.Steps.{log_failed}
use Rattle.xa_system.specs.LogInHistory.{IsBeforeNext, MayHaveFailed}
use Rattle.xa_system.specs.SystemView.{FaultsHaveCauses, MayRestart, MayRestartAfterCrash, Observes, OtherFaultsHaveCauses, SystemView, trace_in}
use Rattle.xa_tm.specs.Slots.{log_held}
use Rattle.xa_tm.specs.Starting.{IsPast}

-- a system was made over this log
pub record IsMadeOver {R L : Type 0} (see : Observes R L) (log : L) (system : SystemView R L) : Type 0 where
  -- it is the log that was handed in first and last, the manager began over it, and it is held
  pub handed : system.handed ≡ log
  pub first : system.first ≡ log
  pub begun : system.begun ≡ system.log
  pub held : IsSome (log_held system.log)
  -- what it rests on was honest before, if it is so after, and it has counted no failure
  pub honest : (see.place system.log).is_honest → (see.moment log).is_honest
  pub faults : (see.place system.log).fault_count ≡ (see.moment log).fault_count
  -- its rows and records were of no later incarnation than its own
  pub past : Honestly (see.moment log) (see.place system.log) (IsSomeAnd (see.moment log).content IsPast)
  -- a restart may follow, also over each content that a crash may leave of the log
  pub near : Honestly (see.moment log) (see.place system.log) (MayRestart see system)
  pub crash : Honestly (see.moment log) (see.place system.log) (MayRestartAfterCrash see system)

-- the log failed in this step
pub record HasFailedInStep {R L : Type 0} (see : Observes R L) (step : Step Xid) (old new : SystemView R L) : Type 0 where
  -- the manager is down
  pub down : up (trace_in see.look new) ≡ false
  -- the log has what it had before, or that with the step's one change
  pub left : Honestly (see.moment old.handed) (see.place new.log)
      (MayHaveFailed (trace_in see.look old) (log_failed (step_of step)) (see.place old.log).content (see.place new.log).content)

pub record KeepsItsLog {R L : Type 0} (see : Observes R L) (old new : SystemView R L) : Type 0 where
  -- the log that was handed in last is the same, and so is the one that was handed in first and how
  -- the manager began over it
  pub handed : new.handed ≡ old.handed
  pub first : new.first ≡ old.first
  pub begun : new.begun ≡ old.begun
  -- what it rests on was honest before, if it is so after
  pub honest : (see.place new.log).is_honest → (see.place old.log).is_honest
  -- a restart may follow, if one might before; and so over each content that a crash may leave of
  -- the log
  pub near : Honestly (see.moment old.handed) (see.place new.log) (MayRestart see old → MayRestart see new)
  pub crash : Honestly (see.moment old.handed) (see.place new.log) (MayRestart see old → MayRestartAfterCrash see old → MayRestartAfterCrash see new)
  -- the log has counted each of its failures that an event answers
  pub faults : Honestly (see.moment old.handed) (see.place new.log) (MayRestart see old → FaultsHaveCauses see old new)
  pub other_faults : OtherFaultsHaveCauses see old new

-- the log held is of another incarnation than one that a restart may follow
pub record HoldsOtherLog {R L : Type 0} (see : Observes R L) (old new : SystemView R L) : Type 0 where
  pub order : (see.moment old.handed).is_in_order
  pub honest : (see.place new.log).is_honest
  pub content : Content
  pub holds : (see.place old.log).content ≡ Some content
  pub other : IsBeforeNext (trace_in see.look old) content → ⊥

-- no restart of the manager can follow: its log is out, or another
abbrev pub HasNoLogToRestart : {R L : Type 0} (see : Observes R L) (old new : SystemView R L) → Type 0
HasNoLogToRestart see old new = (log_held old.log ≡ None) ⊎ HoldsOtherLog see old new
