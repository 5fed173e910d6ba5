-- What bounds the numbers of a book: how much has happened, and what the start had.
use Rattle.std.specs.Prelude.{ℕ, ◌+◌, ◌≡◌, ◌≤◌, ◌⊎◌, List, ◌∷◌, length, Contains, Some, None}
use Rattle.xa_base.specs.Branch.{branch_of_xid}
use Rattle.xa_model.specs.Replies.Allowed.{Restarts}
use Rattle.xa_model.specs.Facts.Distinct.{ApartRows}
use Rattle.xa_model.specs.Facts.{held_of, heuristic_rows, incarnation, log, next_answer, origin}
use Rattle.xa_model.specs.Replies.History.{history}
use Rattle.xa_model.specs.Protocol.{IsRun, Right, RightOrigin}
use Rattle.xa_model.specs.Replies.Steps.{accepted}
use Rattle.xa_model.specs.Trace.{Answer, Call, Fault.InDecide, Happening, Happening.Failed, Happening.Restarted, Line, Origin, Trace, Trace.From, Trace.Then}
use Rattle.xa_base.specs.Xid.{Xid}
use Rattle.xa_base.specs.declared.branch.Branch.{Branch}
use Rattle.xa_base.specs.declared.reply.Event.{Event}
use Rattle.xa_base.specs.declared.reply.Reply.TheVariants as Replies
use Rattle.xa_base.specs.declared.state.Standing.TheVariants.{Unstarted}
use Rattle.xa_log.specs.Content.{last_number}
use Rattle.xa_tm.specs.Answering.{FitsRecord, IsAnswerTo}
use Rattle.xa_tm.specs.Book.{Book, book_of}
use Rattle.xa_tm.specs.LedgerBook.{IsSound}
use Rattle.xa_tm.specs.News.{Asked}
use Rattle.xa_tm.specs.Starting.{IsOld}
use Rattle.xa_tm.specs.BookAndLog.{IsFound}

-- how much a happening counts: if the log fails that was to decide several transactions, as much as
-- those
abbrev pub counts_for : Happening → ℕ
counts_for (Failed (InDecide (g ∷ gs))) = length gs + 1
counts_for _ = 1

-- how many things happened
abbrev pub happenings : Trace → ℕ
happenings (From o) = 0
happenings (Then tr e) = happenings tr + counts_for e

-- a run has at most so many events
abbrev pub most_events : ℕ
most_events = 10_000

-- as many as there are events
abbrev pub EventsAreHappenings : Type 0
EventsAreHappenings = (o : Origin) (events : List Event) → happenings (history o events) ≡ length events

-- so few rows and records that no run can bring their numbers to the greatest that a counter holds
pub record HasRoomForRun (k : Book) : Type 0 where
  pub rows : k.rows ≤ last_number
  pub records : k.records ≤ last_number

-- the history is a run, not too long, and of no greater incarnation than a log can hold; nor has
-- what its start found numbers that a log can't hold
pub record IsWithinLimits (tr : Trace) : Type 0 where
  pub right : IsRun tr
  pub events : happenings tr ≤ most_events
  pub fits : incarnation tr ≤ last_number
  pub found : (b : Branch) → ((held_of (origin tr) b).standing ≡ Unstarted) ⊎ (b.gtrid.sequence ≤ last_number)

-- no greater incarnation is given than a log can hold
abbrev pub FitsIncarnation : Happening → Type 0
FitsIncarnation (Restarted i d h) = i ≤ last_number
FitsIncarnation e = Unit

-- one right happening more keeps a history within its limits
abbrev pub LimitsAreKept : Type 0
LimitsAreKept = (tr : Trace) (e : Happening) → IsWithinLimits tr → Right tr e → happenings (Then tr e) ≤ most_events
    → FitsIncarnation e → IsWithinLimits (Then tr e)

-- the book of a right history of at most 10,000 events is sound, if that of its start is
abbrev pub BooksAreSound : Type 0
BooksAreSound = (tr : Trace) → IsWithinLimits tr → IsSound (book_of (From (origin tr)))
    → HasRoomForRun (book_of (From (origin tr))) → IsSound (book_of tr)

-- a start whose rows and records are of earlier incarnations is right, if no branch of this manager
-- was there and all that is in doubt is another manager's
abbrev pub OldStartsAreRight : Type 0
OldStartsAreRight = (o : Origin) → IsOld (book_of (From o)) → ((b : Branch) → (held_of o b).standing ≡ Unstarted)
    → ((r : ℕ) (x : Xid) → Contains (o.in_doubt r) x → branch_of_xid x ≡ None) → RightOrigin o

-- the answer that waits first on a line answers what was asked for: a call on a branch is answered
-- by a code
abbrev pub AnswersAreCodes : Type 0
AnswersAreCodes = (tr : Trace) (l : Line) (c : Call) (a : Answer) (asked : Asked) → IsRun tr
    → next_answer tr l ≡ Some (c, a) → accepted asked ≡ Some c → IsAnswerTo asked a

-- and if it makes a record, then of a branch that fits the log
abbrev pub RecordsFit : Type 0
RecordsFit = (tr : Trace) (l : Line) (c : Call) (a : Answer) (asked : Asked) → IsWithinLimits tr
    → next_answer tr l ≡ Some (c, a) → accepted asked ≡ Some c → FitsRecord asked a

-- what a restart of the manager finds, that its book allows, is what the history says is there
abbrev pub FoundIsThere : Type 0
FoundIsThere = (tr : Trace) (i d h : ℕ) → IsRun tr → ApartRows (origin tr).rows → IsFound (book_of tr) i d h
    → (d ≡ length (log (Then tr (Restarted i d h)))) × (h ≡ length (heuristic_rows (Then tr (Restarted i d h))))

-- so that the history demands the reply that says it
abbrev pub FoundIsAllowed : Type 0
FoundIsAllowed = (tr : Trace) (i d h : ℕ) → IsRun tr → ApartRows (origin tr).rows → IsFound (book_of tr) i d h
    → Restarts tr (Replies.Restarted i d h)
