-- Requests of recovery.
use Rattle.std.specs.Prelude.{◌≡◌, ◌⊎◌, ℕ, nat_lt, MatchBool}
use Rattle.xa_base.specs.declared.refusal.Refusal.TheVariants as Refusals
use Rattle.xa_server.specs.Replies.{response_of}
use Rattle.xa_server.specs.Standing.{StandsFor}
use Rattle.xa_server.specs.declared.server.Server.{Server}
use Rattle.xa_requests.specs.declared.response.Response.{Response}
use Rattle.xa_requests.specs.declared.response.Response.TheVariants as responses
use Rattle.xa_session.specs.Steps.{Resolves, ResolvesOpen}
use Rattle.xa_tm.specs.Book.{Book}
use Rattle.xa_tm.specs.Calls.{book_in}
use Rattle.xa_tm.specs.Owed.{AreOwed}

-- ** what is replied

-- the identifiers are replied of the branches at the resource manager that are owed
abbrev pub TellsOwed : Book → (rm : ℕ) → Response → Type 0
TellsOwed k rm (responses.Owed told) = AreOwed k rm told.items
TellsOwed k rm reply = ⊥

module _ {L : Type 0} where
  abbrev pub PerformsResolve : (rm : ℕ) → (old : Server L) → Response → (new : Server L) → Type 0
  PerformsResolve rm = StandsFor (Resolves rm) (response_of responses.Resolved)

  abbrev pub PerformsResolveOpen : (rm : ℕ) → (old : Server L) → Response → (new : Server L) → Type 0
  PerformsResolveOpen rm = StandsFor (ResolvesOpen rm) (response_of responses.Resolved)

  -- what is still owed at the resource manager is told
  abbrev pub PerformsOwed : (rm : ℕ) → Server L → Response → Type 0
  PerformsOwed rm c reply =
      MatchBool (nat_lt rm c.session.lines.rms)
      (TellsOwed (book_in c.session.manager) rm reply ⊎ (reply ≡ responses.Refused Refusals.Memory))
      (reply ≡ responses.Refused Refusals.Limit)
