-- What the notes of a conductor rest on.
use Rattle.std.specs.Prelude.{◌≡◌, ◌⊎◌, ℕ, true, false, All, List, []}
use Rattle.xa_log.specs.Contract.{Moment}
use Rattle.xa_requests.specs.declared.request.Request.{Request}
use Rattle.xa_server.specs.declared.server.Server.{Server}
use Rattle.xa_conduct.specs.Acting.{Acts}
use Rattle.xa_conduct.specs.Backing.{TransactionRests, was_asked}
use Rattle.xa_conduct.specs.Told.{AreReplies}
use Rattle.xa_conduct.specs.declared.conductor.Conductor.{Conductor}

module _ {L : Type 0} (moment : L → Moment) where
  -- Lines of requests led from this server to that of the conductor, and all of these requests were asked for by them, and done. What is noted
  -- of each transaction rests on these, unless nothing is told any more.
  pub record Conducts (first : Server L) (c : Conductor L) : Type 0 where
    pub done : List Request
    pub acts : Acts moment done first c.server
    pub rest : c.notes.is_stopped ≡ false → All (TransactionRests (was_asked done [])) c.notes.transactions.items

  -- as a conductor goes on
  abbrev pub KeepsConducting : (old new : Conductor L) → Type 0
  KeepsConducting old new = (first : Server L) → Conducts first old → Conducts first new

  -- no transaction moved, or nothing is told any more
  abbrev pub MovesNone : (old new : Conductor L) → Type 0
  MovesNone old new = (new.notes.transactions ≡ old.notes.transactions) ⊎ (new.notes.is_stopped ≡ true)

  -- And so does what it tells, by this reply to a line: where a transaction moved, each part of the reply is to the move at its place in the line,
  -- and tells of the transaction of the thread that moved what rests on requests that were done. A line of a recovery moves none.
  abbrev pub TurnsSo : (old new : Conductor L) → (line text : List ℕ) → Type 0
  TurnsSo old new line text =
      (first : Server L) → Conducts first old
      → (now : Conducts first new) × (AreReplies (was_asked now.done []) old.notes.transactions.items new.notes.transactions.items line text ⊎ MovesNone old new)
