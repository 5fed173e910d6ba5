-- A conducted session is one of those that are served, and what the conductor told and noted is
-- what rests on its lines.
use Rattle.std.specs.Prelude.{◌≡◌, ℕ, false, All, List}
use Rattle.std.specs.List.{list_any}
use Rattle.xa_conduct.specs.Acting.{Acts, GoesOn}
use Rattle.xa_conduct.specs.Backing.{TransactionRests}
use Rattle.xa_conduct.specs.Conducting.{Conducts, MovesNone, TurnsSo}
use Rattle.xa_conduct.specs.Told.{AreReplies}
use Rattle.xa_conduct.specs.declared.conductor.Conductor.{Conductor}
use Rattle.xa_log.specs.Contract.{Moment}
use Rattle.xa_model.specs.Trace.{Origin}
use Rattle.xa_monitor.specs.Seen.{Seen, Seen.Start}
use Rattle.xa_requests.specs.declared.request.Request.{Request}
use Rattle.xa_requests.specs.declared.response.Response.{Response}
use Rattle.xa_server.specs.NamedLines.{lines_read}
use Rattle.xa_server.specs.Sessions.{IsSession, StartsOver}
use Rattle.xa_server.specs.Telling.{HaveTold, is_log_fault}
use Rattle.xa_server.specs.declared.server.Server.{Server}
use Rattle.xa_tm.specs.Begins.{BeginsWith}
use Rattle.xa_truth.specs.Outcomes.{was_done}

module _ {L : Type 0} (moment : L → Moment) where
  -- There is a session with these lines and replies, of which this holds.
  pub record IsSessionOf (name : List ℕ) (handed : L) (o : Origin) (lines : List (List ℕ)) (replies : List Response) (now : Server L)
      (Holds : List (List ℕ) → List Response → Type 0) : Type 0 where
    pub seen : Seen
    pub told : HaveTold o.threads (lines_read name lines) replies Start seen
    pub session : IsSession moment name handed o seen now
    pub holds : Holds (lines_read name session.lines) session.replies

  -- What a conductor did with a server that started over a log is a session of a driver, as long as
  -- the log didn't fail: its lines ask for the conductor's requests. Of a manager of a name it is
  -- one of whatever lines this manager means so. And this holds of the lines and replies.
  abbrev pub IsServedWith : (threads rms : ℕ) (handed : L) (first now : Server L) → (List (List ℕ) → List Response → Type 0) → Type 0
  IsServedWith threads rms handed first now Holds =
      (done : List Request) × ((acts : Acts moment done first now)
      × ((name : List ℕ) (lines : List (List ℕ)) → lines_read name lines ≡ acts.lines → list_any is_log_fault acts.replies ≡ false
      → (o : Origin) → BeginsWith threads rms first.session.manager o → IsSessionOf name handed o lines acts.replies now Holds))

  -- What its replies to a line tell, by which a transaction moved, rests on these, and is told of
  -- the transactions that were noted of the threads that moved; whatever it did since.
  abbrev pub TurnsAreServed : Type 0
  TurnsAreServed =
      (threads rms : ℕ) (handed : L) (first now : Server L) (old new : Conductor L) (line text : List ℕ)
      → StartsOver moment threads rms handed first → Conducts moment first old → TurnsSo moment old new line text → (MovesNone moment old new → ⊥)
      → GoesOn moment new.server now
      → IsServedWith threads rms handed first now (λ lines replies. AreReplies (was_done lines replies) old.notes.transactions.items new.notes.transactions.items line text)

  -- And so does what it notes of each transaction, unless nothing is told any more.
  abbrev pub NotesAreServed : Type 0
  NotesAreServed =
      (threads rms : ℕ) (handed : L) (first now : Server L) (c : Conductor L) → StartsOver moment threads rms handed first → Conducts moment first c
      → c.notes.is_stopped ≡ false → GoesOn moment c.server now
      → IsServedWith threads rms handed first now (λ lines replies. All (TransactionRests (was_done lines replies)) c.notes.transactions.items)
