-- How a session tracks what is seen.
use Rattle.std.specs.Prelude.{ℕ, ◌≡◌, ◌⊎◌, ◌<◌, All, true, List, [], ◌∷◌, Option, Some, None}
use Rattle.xa_base.specs.Answer.{map_answer}
use Rattle.xa_base.specs.Xid.{Xid}
use Rattle.xa_base.specs.declared.answer.Answer.{Answer as Given}
use Rattle.xa_base.specs.declared.branch.Gtrid.{Gtrid}
use Rattle.xa_base.specs.declared.step.Outcome.{Outcome}
use Rattle.xa_base.specs.declared.step.Step.TheVariants as Steps
use Rattle.xa_log.specs.Content.{Content}
use Rattle.xa_model.specs.Facts.{record_of}
use Rattle.xa_model.specs.Facts.Distinct.{ApartRows}
use Rattle.xa_model.specs.Protocol.{IsRun}
use Rattle.xa_model.specs.Replies.History.{name_of}
use Rattle.xa_model.specs.Trace.{Answer, Call, Fault, Fault.InDecide, Fault.InDone, Fault.InHear, Happening, Happening.Failed, Line, Origin, Trace, line}
use Rattle.xa_monitor.specs.Agreement.{WaitsAt}
use Rattle.xa_monitor.specs.Explained.{HasOnlyOlderRows, IsExplained}
use Rattle.xa_monitor.specs.Monitor.{Monitors}
use Rattle.xa_monitor.specs.Seen.{HasAnswer, IsHistory, IsManagers, KeepsRules, Seen, Seen.Answered, Seen.Did, Seen.Lost, Seen.Start}
use Rattle.xa_monitor.specs.Sessions.{Finds, Log.LeftBy, MayFail}
use Rattle.xa_tm.specs.Begins.{BeginsWith}
use Rattle.xa_tm.specs.Book.{Doubt, Doubt.Adds, Doubt.Drops, book_after, doubt_of, rows_for}
use Rattle.xa_tm.specs.BookAndLog.{IsTied}
use Rattle.xa_tm.specs.Calls.{book_in, written_by}
use Rattle.xa_tm.specs.InTurn as turns
use Rattle.xa_tm.specs.Refusing.{refusal_in}
use Rattle.xa_tm.specs.Starting.{HasContent}
use Rattle.xa_session.specs.Following.{FollowsAll, FollowsAnswer, FollowsLoss, StandsAtStart, StandsIn, StaysAs}
use Rattle.xa_session.specs.Answering.{IsFirst}
use Rattle.xa_session.specs.Session.{known_at, unfit}
use Rattle.xa_session.specs.declared.session.Session.{Session}

-- the session stands in each history of what is seen that is a run, whatever the resource managers
-- did by themselves
abbrev pub Tracks : {L : Type 0} → Origin → Seen → Session L → Type 0
Tracks o seen s = (tr : Trace) → IsHistory o seen tr → IsRun tr → StandsIn tr s

-- the manager kept its rules in what is seen, the session tracks it, and its monitor has followed
-- it
abbrev pub KeepsTrack : {L : Type 0} → Origin → Seen → Session L → Type 0
KeepsTrack o seen s = KeepsRules o seen × Tracks o seen s × Monitors o seen s.monitor

-- A session that stands in each start that has its log's rows and records keeps track from each
-- such start.
abbrev pub StartsAreTracked : Type 0 → Type 0
StartsAreTracked L =
    (threads rms : ℕ) (s : Session L) → StandsAtStart threads rms s → (o : Origin) → BeginsWith threads rms s.manager o → KeepsTrack o Start s

-- what is seen if the manager did these too, in turn
abbrev pub did_all : Seen → List Happening → Seen
did_all seen [] = seen
did_all seen (e ∷ es) = did_all (Did seen e) es

-- A session that keeps track of what is seen, and does in turn what was right to happen wherever it
-- stood, keeps track of that too.
abbrev pub StepsAreTracked : Type 0 → Type 0
StepsAreTracked L =
    (o : Origin) (seen : Seen) (es : List Happening) (old new : Session L) → All IsManagers es → KeepsTrack o seen old → FollowsAll es old new
    → KeepsTrack o (did_all seen es) new

-- And so one that hears an answer which such a call has.
abbrev pub AnswersAreTracked : Type 0 → Type 0
AnswersAreTracked L =
    (o : Origin) (seen : Seen) (l : Line) (c : Call) (a : Answer) (old new : Session L) → HasAnswer c a → KeepsTrack o seen old
    → FollowsAnswer l c a old new → KeepsTrack o (Answered seen l c a) new

-- And so one that loses a line.
abbrev pub LossesAreTracked : Type 0 → Type 0
LossesAreTracked L =
    (o : Origin) (seen : Seen) (l : Line) (c : Option Call) (old new : Session L) → KeepsTrack o seen old → FollowsLoss l c old new
    → KeepsTrack o (Lost seen l c) new

-- And so one that stays as it was, as when a request for memory was refused.
abbrev pub RefusalsAreTracked : Type 0 → Type 0
RefusalsAreTracked L = (o : Origin) (seen : Seen) (old new : Session L) → KeepsTrack o seen old → StaysAs old new → KeepsTrack o seen new

-- And so one that releases a transaction: it stands wherever it stood, and no branch is in other
-- states.
abbrev pub ReleasesAreTracked : Type 0 → Type 0
ReleasesAreTracked L =
    (o : Origin) (seen : Seen) (old new : Session L) → KeepsTrack o seen old → ((tr : Trace) → StandsIn tr old → StandsIn tr new)
    → new.monitor ≡ old.monitor → KeepsTrack o seen new

-- On each of its lines a session that keeps track has those calls wait, in order, that do by each
-- right history of what is seen.
abbrev pub WaitingCallsAreTracked : Type 0 → Type 0
WaitingCallsAreTracked L =
    (o : Origin) (seen : Seen) (s : Session L) (t r n : ℕ) → KeepsTrack o seen s → t < o.threads → r < o.rms
    → WaitsAt o seen (line t r) n (known_at s.lines t r n)

-- a start over a log: it has the rows and records of that, in an incarnation that was raised since,
-- once or more
pub record IsRaisedFrom (c : Content) (next : Origin) : Type 0 where
  pub found : Content
  pub has : HasContent next found
  pub rows : found.decisions ≡ c.decisions
  pub records : found.heuristics ≡ c.heuristics
  pub raised : c.incarnation < found.incarnation
  pub apart : ApartRows next.rows

-- A start over a log that has what a session's book says finds what the session left: over its own
-- log, or over what a crash may leave of that.
abbrev pub StartsFindTheLog : Type 0 → Type 0
StartsFindTheLog L =
    (o : Origin) (seen : Seen) (s : Session L) (c : Content) (next : Origin) → KeepsTrack o seen s → IsTied true (book_in s.manager) (Some c)
    → IsRaisedFrom c next → Finds (LeftBy o seen None) next

-- The same if the log failed in a step, or the program was killed in it: that was right, and the
-- change is in doubt.
pub record IsFailedStep {L : Type 0} (o : Origin) (seen : Seen) (s : Session L) (asked : Doubt) (f : Fault) : Type 0 where
  pub may_fail : MayFail o seen (Some f)
  pub finds :
      (c : Content) (next : Origin) → IsTied true (book_after (book_in s.manager) asked (Failed f)) (Some c) → IsRaisedFrom c next
      → Finds (LeftBy o seen (Some f)) next

-- it was a decision of these that no rule refuses: rows were to be written of those that are
-- committed and that some branch voted XA_OK for
abbrev pub FailedDecisionsAreFound : Type 0 → Type 0
FailedDecisionsAreFound L =
    (o : Origin) (seen : Seen) (s : Session L) (outcome : Outcome) (gs : List Gtrid) → KeepsTrack o seen s
    → turns.decide_refusal outcome (book_in s.manager) gs ≡ None
    → IsFailedStep o seen s (turns.rows_added outcome (book_in s.manager) gs) (InDecide (written_by outcome (book_in s.manager) gs))

-- or a claimed transaction was to be committed, that some branch voted XA_OK for
abbrev pub FailedSettlementsAreFound : Type 0 → Type 0
FailedSettlementsAreFound L =
    (o : Origin) (seen : Seen) (s : Session L) (g : Gtrid) → KeepsTrack o seen s → refusal_in (book_in s.manager) (Steps.Settle g) ≡ None
    → ((book_in s.manager).transaction g).has_yes ≡ true
    → IsFailedStep o seen s (Adds (rows_for (book_in s.manager) (g ∷ []))) (InDecide (g ∷ []))

-- or rows were to be taken away
abbrev pub FailedDonesAreFound : Type 0 → Type 0
FailedDonesAreFound L =
    (o : Origin) (seen : Seen) (s : Session L) (gs : List Gtrid) → KeepsTrack o seen s → turns.done_refusal (book_in s.manager) gs ≡ None
    → IsFailedStep o seen s (Drops gs) (InDone gs)

-- An answer was told to the call that waits first on a line, which may be answered so, and its
-- record couldn't be written: the log failed, or the program was killed in it. It is all or none.
-- What a start finds is what the session left after the answer, or before it.
pub record IsFailedAnswer {L : Type 0} (o : Origin) (seen : Seen) (s : Session L) (l : Line) (c : Call) (a : Answer) : Type 0 where
  pub keeps : KeepsRules o (Answered seen l c a)
  pub finds :
      (found : Content) (next : Origin) → IsTied true (book_after (book_in s.manager) (doubt_of (record_of c a)) (Failed (InHear l))) (Some found)
      → IsRaisedFrom found next → Finds (LeftBy o (Answered seen l c a) None) next ⊎ Finds (LeftBy o seen None) next

abbrev pub FailedAnswersAreFound : Type 0 → Type 0
FailedAnswersAreFound L =
    (o : Origin) (seen : Seen) (s : Session L) (t r : ℕ) (answer : Given Xid) (c : Call) → KeepsTrack o seen s → unfit s t r answer ≡ None
    → IsFirst s t r c → IsFailedAnswer o seen s (line t r) c (map_answer name_of answer)

-- What a session keeps track of, from an old log, has a right history.
abbrev pub SessionsAreExplained : Type 0 → Type 0
SessionsAreExplained L = (o : Origin) (seen : Seen) (s : Session L) → HasOnlyOlderRows o → KeepsTrack o seen s → IsExplained o seen
