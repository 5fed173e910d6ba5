-- A manager that has just started over a log.
use Rattle.std.specs.Prelude.{◌≡◌, ℕ, Bool, IsSomeAnd}
use Rattle.xa_log.specs.Content.{with_bump}
use Rattle.xa_log.specs.Contract.{Honestly, Makes, Moment}
use Rattle.xa_model.specs.Facts.Distinct.{ApartRows}
use Rattle.xa_model.specs.Trace.{Origin, Trace.From}
use Rattle.xa_tm.specs.Begins.{BeginsWith, rows_begun}
use Rattle.xa_tm.specs.Book.{book_of}
use Rattle.xa_tm.specs.BookAndLog.{IsTied}
use Rattle.xa_tm.specs.Calls.{book_in, log_in}
use Rattle.xa_tm.specs.LedgerBook.{IsSound}
use Rattle.xa_tm.specs.Limits.{HasRoomForRun}
use Rattle.xa_tm.specs.Release.{RowsAreOwn}
use Rattle.xa_tm.specs.Starting.{IsOld, IsPast, book_at_start}
use Rattle.xa_tm.specs.declared.manager.Manager.{Manager}

-- its book
pub record IsStarted {L : Type 0} (threads rms : ℕ) (manager : Manager L) : Type 0 where
  -- a history that begins with what it began with has its book
  pub book : (o : Origin) → BeginsWith threads rms manager o → book_in manager ≡ book_of (From o)
  -- its rows and records are of earlier incarnations; each row waits for branches of its own
  -- transaction, and no transaction has two
  pub old : IsOld (book_in manager)
  pub own : RowsAreOwn (book_in manager)
  pub apart : ApartRows (rows_begun manager)
  -- it allows each call, and has room for a run
  pub sound : IsSound (book_in manager)
  pub room : HasRoomForRun (book_in manager)

-- its log, which was handed to it so
pub record IsStartedOver {L : Type 0} (moment : L → Moment) (threads rms : ℕ) (handed : Moment) (manager : Manager L) : Type 0 where
  pub order : handed.is_in_order → (moment (log_in manager)).is_in_order
  pub honest : (moment (log_in manager)).is_honest → handed.is_honest
  pub faults : (moment (log_in manager)).fault_count ≡ handed.fault_count
  -- its rows and records were of no later incarnation than its own, which was raised
  pub past : Honestly handed (moment (log_in manager)) (IsSomeAnd handed.content IsPast)
  pub raised : Honestly handed (moment (log_in manager)) (Makes with_bump handed.content (moment (log_in manager)).content)
  -- it has what the book says
  pub tied : (near : Bool) → Honestly handed (moment (log_in manager)) (IsTied near (book_in manager) (moment (log_in manager)).content)
  pub book : Honestly handed (moment (log_in manager))
      (IsSomeAnd (moment (log_in manager)).content (λ c. book_in manager ≡ book_at_start threads rms c))
