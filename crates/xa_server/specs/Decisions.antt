-- Requests that begin and end transactions.
use Rattle.std.specs.Prelude.{ℕ, List}
use Rattle.xa_base.specs.declared.branch.Gtrid.{Gtrid}
use Rattle.xa_base.specs.declared.step.Outcome.{Outcome}
use Rattle.xa_server.specs.Replies.{response_of}
use Rattle.xa_server.specs.Standing.{StandsFor}
use Rattle.xa_server.specs.declared.server.Server.{Server}
use Rattle.xa_requests.specs.declared.response.Response.{Response}
use Rattle.xa_requests.specs.declared.response.Response.TheVariants as responses
use Rattle.xa_session.specs.Steps.{Abandons, Begins, Claims, Decides, Finishes, Settles}

-- ** what is replied

module _ {L : Type 0} where
  abbrev pub PerformsBegin : (thread : ℕ) → (old : Server L) → Response → (new : Server L) → Type 0
  PerformsBegin thread = StandsFor (Begins thread) (response_of responses.Begun)

  abbrev pub PerformsClaim : Gtrid → (old : Server L) → Response → (new : Server L) → Type 0
  PerformsClaim g = StandsFor (Claims g) (response_of (λ _. responses.Claimed))

  abbrev pub PerformsAbandon : Gtrid → (old : Server L) → Response → (new : Server L) → Type 0
  PerformsAbandon g = StandsFor (Abandons g) (response_of (λ _. responses.Decided))

  abbrev pub PerformsDecide : List Gtrid → Outcome → (old : Server L) → Response → (new : Server L) → Type 0
  PerformsDecide gs outcome = StandsFor (Decides gs outcome) (response_of (λ _. responses.Decided))

  abbrev pub PerformsSettle : Gtrid → (old : Server L) → Response → (new : Server L) → Type 0
  PerformsSettle g = StandsFor (Settles g) (response_of (λ _. responses.Decided))

  -- the rows of these leave the log
  abbrev pub PerformsDone : List Gtrid → (old : Server L) → Response → (new : Server L) → Type 0
  PerformsDone gs = StandsFor (Finishes gs) (response_of (λ _. responses.Noted))
