-- What a crash of the log's store may leave, as the book says it.
use Rattle.xa_log.specs.Content.{Content}
use Rattle.std.specs.Prelude.{Bool}
use Rattle.xa_tm.specs.Book.{Book}
use Rattle.xa_tm.specs.BookAndLog.{IsTiedDown}

-- each content that a crash may leave has what the book says, with or without the change in doubt
abbrev pub LeavesTied : (near : Bool) → Book → (Content → Type 0) → Type 0
LeavesTied near k may = (d : Content) → may d → IsTiedDown near k d
