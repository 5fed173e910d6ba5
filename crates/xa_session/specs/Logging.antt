-- What becomes of the log of a manager that serves.
use Rattle.std.specs.Prelude.{◌≡◌, ◌⊎◌, ◌<◌, ℕ, Bool, true, Option, Some}
use Rattle.std.specs.FinMap.{get}
use Rattle.xa_base.specs.declared.branch.Gtrid.{Gtrid}
use Rattle.xa_log.specs.Content.{Content}
use Rattle.xa_log.specs.Contract.{Honestly, Moment}
use Rattle.xa_tm.specs.Book.{Doubt, Waiting, row_with}
use Rattle.xa_tm.specs.BookAndLog.{IsTied}
use Rattle.xa_tm.specs.Calls.{book_in, log_in}
use Rattle.xa_tm.specs.Started.{IsStartedOver}
use Rattle.xa_tm.specs.declared.manager.Manager.{Manager}

-- these rows or, if a change of them is in doubt, these with all of it
abbrev pub HasAllOrNone : Doubt → (Gtrid → Option Waiting) → Content → Type 0
HasAllOrNone doubt row c = ((g : Gtrid) → get c.decisions g ≡ row g) ⊎ ((g : Gtrid) → get c.decisions g ≡ row_with doubt g (row g))

module _ {L : Type 0} (moment : L → Moment) where
  -- The log has what the book says: exactly that while the manager is up and, once the log has
  -- failed, that with or without the change in doubt, of which all was made or nothing. So has each
  -- content that a crash of its store may leave.
  pub record HoldsItsBook (near : Bool) (m : Manager L) : Type 0 where
    pub tied : IsTied near (book_in m) (moment (log_in m)).content
    pub left : (c : Content) → (moment (log_in m)).may_leave c → IsTied near (book_in m) (Some c)

  -- A step of the session, of one incarnation: the log stays in order, and if it has been honest up
  -- to now, it has what the book says now, if it had what the book said.
  pub record KeepsLog (old new : Manager L) : Type 0 where
    pub order : (moment (log_in old)).is_in_order → (moment (log_in new)).is_in_order
    pub honest : (moment (log_in new)).is_honest → (moment (log_in old)).is_honest
    pub holds : (near : Bool) → Honestly (moment (log_in old)) (moment (log_in new)) (HoldsItsBook near old → HoldsItsBook near new)
    pub incarnation : (book_in new).incarnation ≡ (book_in old).incarnation

  -- ** what a session leaves

  -- the log's content, or one that a crash of its store may leave
  abbrev pub LeavesContent : Manager L → Content → Type 0
  LeavesContent m c = ((moment (log_in m)).content ≡ Some c) ⊎ (moment (log_in m)).may_leave c

  -- it has the rows of the book and, once the log has failed, all those that are in doubt with
  -- them, or none
  abbrev pub LogsHaveAllOrNone : Type 0
  LogsHaveAllOrNone = (near : Bool) (m : Manager L) (c : Content) → HoldsItsBook near m → LeavesContent m c
      → HasAllOrNone (book_in m).doubt (book_in m).row c

  -- a manager that starts over what an earlier one leaves
  pub record StartsBehind (last : Manager L) (handed : L) (next : Manager L) (c : Content) : Type 0 where
    pub threads : ℕ
    pub rms : ℕ
    pub left : LeavesContent last c
    pub content : (moment handed).content ≡ Some c
    pub over : IsStartedOver moment threads rms (moment handed) next

  -- It is of a later incarnation, so that no identifier comes twice, and its rows are those that
  -- were left.
  abbrev pub LaterSessionsAreNewer : Type 0
  LaterSessionsAreNewer =
      (last next : Manager L) (handed : L) (c : Content) → HoldsItsBook true last → StartsBehind last handed next c
      → Honestly (moment handed) (moment (log_in next)) ((book_in last).incarnation < (book_in next).incarnation)

  abbrev pub RowsAreHandedOn : Type 0
  RowsAreHandedOn =
      (last next : Manager L) (handed : L) (c : Content) → StartsBehind last handed next c
      → Honestly (moment handed) (moment (log_in next)) ((g : Gtrid) → (book_in next).row g ≡ get c.decisions g)
