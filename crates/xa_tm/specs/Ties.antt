-- What a call of the manager keeps of the tie between its book and its log.
use Rattle.std.specs.Prelude.{Bool, Option}
use Rattle.xa_log.specs.Content.{Content}
use Rattle.xa_log.specs.Contract.{Honestly, Moment}
use Rattle.xa_tm.specs.Book.{Book}
use Rattle.xa_tm.specs.BookAndLog.{IsTied}
use Rattle.xa_tm.specs.Calls.{book_in, log_in}
use Rattle.xa_tm.specs.declared.manager.Manager.{Manager}

-- the log has what the book says afterwards, if it had what the book said before
abbrev pub StaysTied : {L : Type 0} → (L → Moment) → (old new : Manager L) → Type 0
StaysTied moment old new = (near : Bool) → Honestly (moment (log_in old)) (moment (log_in new))
    (IsTied near (book_in old) (moment (log_in old)).content → IsTied near (book_in new) (moment (log_in new)).content)

-- so does any log, since none is asked
abbrev pub StaysTiedToAny : (old new : Book) → Type 0
StaysTiedToAny old new = (near : Bool) (log : Option Content) → IsTied near old log → IsTied near new log
