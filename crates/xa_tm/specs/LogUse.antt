-- What a call of the manager does to its log, by the log's moments before and after it.
use Rattle.std.specs.Prelude.{◌≡◌, ◌⊎◌, true, Result, Err}
use Rattle.xa_base.specs.declared.refusal.Refusal.{Refusal}
use Rattle.xa_base.specs.declared.refusal.Refusal.TheVariants.{LogFault}
use Rattle.xa_log.specs.Content.{with_bump}
use Rattle.xa_log.specs.Contract.{Honestly, LeavesAlso, MayMake, Moment}
use Rattle.xa_tm.specs.Book.{Book}
use Rattle.xa_tm.specs.BookAndLog.{IsTied}
use Rattle.xa_tm.specs.Calls.{faults_by}

-- any call, whatever it asks the log for
pub record UsesLog {A : Type 0} (old new : Moment) (result : Result A Refusal) : Type 0 where
  pub order : old.is_in_order → new.is_in_order
  pub honest : new.is_honest → old.is_honest
  pub faults : new.fault_count ≡ faults_by result old.fault_count

-- a restart of a manager with this book, which asks the log to raise its incarnation
pub record AsksToRaise {A : Type 0} (k : Book) (old new : Moment) (result : Result A Refusal) : Type 0 where
  -- if the log failed, it is shut, or as before, or its incarnation is raised
  pub fault : Honestly old new (result ≡ Err LogFault → MayMake with_bump old.content new.content)
  pub crash : Honestly old new (LeavesAlso with_bump old.content old.may_leave new.may_leave)
  pub order : old.is_in_order → new.is_in_order
  pub honest : new.is_honest → old.is_honest
  -- a log that is tied to the book counts a fault exactly if it is the cause of the refusal
  pub faults : Honestly old new (IsTied true k old.content → new.fault_count ≡ faults_by result old.fault_count)
  -- another may be refused for numbers that the book can't have, and then counts none
  pub counted : (new.fault_count ≡ faults_by result old.fault_count) ⊎ ((result ≡ Err LogFault) × (new.fault_count ≡ old.fault_count))
