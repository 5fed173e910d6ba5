-- Lines that are lost.
use Rattle.std.specs.Prelude.{◌≡◌, ℕ, ◌+◌, zero, suc, Result, MatchResult}
use Rattle.xa_base.specs.declared.refusal.Refusal.{Refusal}
use Rattle.xa_server.specs.Replies.{response_of}
use Rattle.xa_server.specs.Standing.{OnlyTells, StandsFor}
use Rattle.xa_server.specs.declared.server.Server.{Server}
use Rattle.xa_requests.specs.declared.response.Response.{Response}
use Rattle.xa_requests.specs.declared.response.Response.TheVariants as responses
use Rattle.xa_session.specs.Steps.{Loses}

module _ {L : Type 0} where
  abbrev pub PerformsCrashLine : (thread rm : ℕ) → (old : Server L) → Response → (new : Server L) → Type 0
  PerformsCrashLine thread rm = StandsFor (Loses thread rm) (response_of (λ _. responses.Crashed))

  -- the session lost the line, or didn't, and nothing else changed
  pub record LosesOne (thread rm : ℕ) (old : Server L) (result : Result (Unit {0}) Refusal) (new : Server L) : Type 0 where
    pub does : Loses thread rm old.session new.session result
    pub rest : new ≡ record old { session = new.session }

  -- the lines of so many threads, from one on, are lost in turn, up to the first that is refused
  abbrev pub LosesFrom : (rm thread : ℕ) → (left : ℕ) → (old : Server L) → Response → (new : Server L) → Type 0
  LosesFrom rm thread zero old reply new = OnlyTells responses.Crashed old reply new
  LosesFrom rm thread (suc left) old reply new =
      (next : Server L) × (result : Result (Unit {0}) Refusal) × LosesOne thread rm old result next
      × MatchResult result (λ _. LosesFrom rm (thread + 1) left next reply new) (λ n. OnlyTells (responses.Refused n) next reply new)

  -- those of all threads
  abbrev pub PerformsCrashRm : (rm : ℕ) → (old : Server L) → Response → (new : Server L) → Type 0
  PerformsCrashRm rm old reply new = LosesFrom rm 0 old.session.lines.threads old reply new
