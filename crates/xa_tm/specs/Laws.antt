-- What ties the book to histories.
use Rattle.std.specs.Prelude.{ℕ, List, ◌-◌, ◌≡◌, length, filter, not, ◌&&◌, true, false, None, Some}
use Rattle.xa_base.specs.declared.step.Step.TheVariants as Steps
use Rattle.xa_base.specs.Branch.{gtrid_eq}
use Rattle.xa_model.specs.Facts.Distinct.{ApartRows, EachOnce}
use Rattle.xa_base.specs.declared.branch.Gtrid.{Gtrid}
use Rattle.xa_base.specs.declared.step.Outcome.TheVariants as Outcome
use Rattle.xa_base.specs.declared.step.Part.TheVariants as Part
use Rattle.xa_base.specs.declared.step.Side.TheVariants as Side
use Rattle.xa_model.specs.Facts.{Change.DropRows, begun, branches, decided_so, doubt, has_row, heuristic_rows, log, next_answer, origin, page, record_of, resolving_calls, is_settled, without, without_each, has_voted}
use Rattle.xa_base.specs.Opening.{has_closed}
use Rattle.xa_model.specs.Protocol.{IsRun, Right}
use Rattle.xa_model.specs.Replies.Rules.{must_refuse}
use Rattle.xa_model.specs.Replies.Steps.{Step}
use Rattle.xa_model.specs.Replies.View.{view_of}
use Rattle.xa_model.specs.Trace.{Answer, Call, Fault.InDecide, Fault.InDone, Fault.InHear, Happening, Happening.Done, Happening.Failed, Happening.ResolvedOpen, Happening.Restarted, Line, Trace, Trace.Then}
use Rattle.xa_log.specs.Content.{Content}
use Rattle.xa_tm.specs.Book.{Book, Doubt.Adds, Doubt.Drops, doubt_of_happening, book_after, book_of, doubt_of, rows_for}
use Rattle.xa_tm.specs.BookAndLog.{IsChangeOf}
use Rattle.xa_tm.specs.Refusing.{managers_refusal, refusal_in, resolved_in, resolved_open_in, view_in}
use Rattle.xa_tm.specs.Starting.{rows_from}

-- the numbers of rows: a row that leaves is one, and a restart finds those that are there
abbrev pub CountsRows : Trace → Happening → Type 0
CountsRows tr (Done h) = length (without h (log tr)) ≡ length (log tr) - 1
CountsRows tr (Restarted i d h) =
    (d ≡ length (log (Then tr (Restarted i d h)))) × (h ≡ length (heuristic_rows (Then tr (Restarted i d h))))
CountsRows tr _ = Unit

-- the book of a history with one happening more is what the happening makes of the book
abbrev pub BooksFollowHistories : Type 0
BooksFollowHistories = (tr : Trace) (e : Happening) → CountsRows tr e
    → book_of (Then tr e) ≡ book_after (book_of tr) (doubt_of_happening tr e) e

-- of a right history over a start whose rows are of different transactions nothing more is asked:
-- the row that a Done takes away is one, and the numbers that a restart tells are those of the rows
abbrev pub RowsAreCounted : Type 0
RowsAreCounted = (tr : Trace) (e : Happening) → IsRun tr → Right tr e → ApartRows (origin tr).rows → CountsRows tr e

abbrev pub RightBooksFollow : Type 0
RightBooksFollow = (tr : Trace) (e : Happening) → IsRun tr → Right tr e → ApartRows (origin tr).rows
    → book_of (Then tr e) ≡ book_after (book_of tr) (doubt_of_happening tr e) e

-- the rows of a log are, so that a start with them has such rows
abbrev pub StartRowsAreApart : Type 0
StartRowsAreApart = (c : Content) → ApartRows (rows_from c)

-- rows whose removal is in doubt are there, each of another transaction
abbrev pub DroppedRowsAreThere : Type 0
DroppedRowsAreThere = (tr : Trace) (gs : List Gtrid) → IsRun tr → doubt tr ≡ DropRows gs
    → EachOnce (λ g. has_row tr g ≡ true) gs

-- and so many rows leave
abbrev pub DropsAreCounted : Type 0
DropsAreCounted = (tr : Trace) (gs : List Gtrid) → IsRun tr → ApartRows (origin tr).rows → doubt tr ≡ DropRows gs
    → length (without_each gs (log tr)) ≡ length (log tr) - length gs

-- the change in doubt is one of the rows that are there
abbrev pub DoubtsAreOfRows : Type 0
DoubtsAreOfRows = (tr : Trace) → IsRun tr → IsChangeOf (book_of tr).row (book_of tr).doubt

-- the numbers of the book are those of a count over all branches: of a transaction's branches, of
-- those without a vote for commit and, while it is begun, of those that are not settled
abbrev pub BranchesAreCounted : Type 0
BranchesAreCounted = (tr : Trace) (g : Gtrid)
    → ((book_of tr).transaction g).branches ≡ length (filter (λ b. gtrid_eq b.gtrid g) (branches tr))

abbrev pub VotesAreCounted : Type 0
VotesAreCounted = (tr : Trace) (g : Gtrid) → IsRun tr
    → ((book_of tr).transaction g).unvoted ≡ length (filter (λ b. gtrid_eq b.gtrid g && not (has_voted tr b)) (branches tr))

abbrev pub SettlementsAreCounted : Type 0
SettlementsAreCounted = (tr : Trace) (g : Gtrid) → IsRun tr → begun tr g ≡ true
    → ((book_of tr).transaction g).unsettled ≡ length (filter (λ b. gtrid_eq b.gtrid g && not (is_settled tr b)) (branches tr))

-- the book of a right history says what a refusal looks at as the history does
abbrev pub ViewsAgree : Type 0
ViewsAgree = (tr : Trace) → IsRun tr → view_in (book_of tr) ≡ view_of tr

-- the step names no thread and no resource manager that only others look at
abbrev pub IsLookedAt : Step → Type 0
IsLookedAt (Steps.Take t r) = ⊥
IsLookedAt (Steps.Vote r x v) = ⊥
IsLookedAt (Steps.Busy r x n) = ⊥
IsLookedAt (Steps.Heuristic r x how) = ⊥
IsLookedAt (Steps.Crash (Part.Rm r)) = ⊥
IsLookedAt (Steps.Restart (Side.Rm r)) = ⊥
IsLookedAt _ = Unit

-- what the book of a right history says is refused is what the history forces
abbrev pub RefusalsAreRead : Type 0
RefusalsAreRead = (tr : Trace) (s : Step) → IsRun tr → IsLookedAt s
    → refusal_in (book_of tr) s ≡ managers_refusal tr s

-- the manager alone is asked
abbrev pub IsAlone : Step → Type 0
IsAlone (Steps.Begin t) = Unit
IsAlone (Steps.Decide g o) = Unit
IsAlone (Steps.Claim g) = Unit
IsAlone (Steps.Settle g) = Unit
IsAlone (Steps.Abandon g) = Unit
IsAlone (Steps.Done g) = Unit
IsAlone (Steps.Crash Part.Manager) = Unit
IsAlone (Steps.Restart Side.Manager) = Unit
IsAlone _ = ⊥

-- if the manager alone is asked, these are all refusals that the history forces
abbrev pub ManagersRefusalsAreAll : Type 0
ManagersRefusalsAreAll = (tr : Trace) (s : Step) → IsAlone s → must_refuse tr s ≡ managers_refusal tr s

-- a transaction that is begun and not committed has no row
abbrev pub OpenHasNoRow : Type 0
OpenHasNoRow = (tr : Trace) (g : Gtrid) → IsRun tr → begun tr g ≡ true
    → decided_so Outcome.Commit tr g ≡ false → (book_of tr).row g ≡ None

-- ** what the log is asked for

-- if decisions to commit fail, the rows that the book says are in doubt are the rows that the
-- history says
abbrev pub DecisionsAskTheRows : Type 0
DecisionsAskTheRows = (tr : Trace) (gs : List Gtrid) → Adds (rows_for (book_of tr) gs) ≡ doubt_of_happening tr (Failed (InDecide gs))

-- if a Done of several fails, their rows
abbrev pub DonesAskTheRows : Type 0
DonesAskTheRows = (tr : Trace) (gs : List Gtrid) → Drops gs ≡ doubt_of_happening tr (Failed (InDone gs))

-- if the answer that waits first isn't heard, the record that it makes
abbrev pub AnswersAskTheRecord : Type 0
AnswersAskTheRecord = (tr : Trace) (l : Line) (c : Call) (a : Answer) → next_answer tr l ≡ Some (c, a)
    → doubt_of (record_of c a) ≡ doubt_of_happening tr (Failed (InHear l))

-- ** recoveries

-- the calls of a recovery that are read off the book are those of the history
abbrev pub ResolvesAreRead : Type 0
ResolvesAreRead = (tr : Trace) (r : ℕ) → resolved_in (book_of tr) r ≡ resolving_calls tr (page tr r)

-- the same, of a recovery that first rolls back what is open
abbrev pub OpenResolvesAreRead : Type 0
OpenResolvesAreRead = (tr : Trace) (r : ℕ)
    → resolved_open_in (book_of tr) r ≡ resolving_calls (Then tr (ResolvedOpen r)) (page tr r)

-- no call of a recovery closes its line
abbrev pub RecoveriesCloseNone : Type 0
RecoveriesCloseNone = (k : Book) (r : ℕ)
    → (has_closed (resolved_in k r) ≡ false) × (has_closed (resolved_open_in k r) ≡ false)
