-- That outcomes are true, as a statement over sessions of drivers one after another. A crate above this one proves it, as a law (`outcomes_are_true`).
use Rattle.std.specs.Prelude.{◌≡◌, ◌⊎◌, ℕ, true, List, ◌∷◌, Option, Some}
use Rattle.std.specs.List.{list_any}
use Rattle.xa_base.specs.declared.branch.Branch.{Branch}
use Rattle.xa_base.specs.declared.branch.Gtrid.{Gtrid}
use Rattle.xa_base.specs.declared.state.Standing.{Standing}
use Rattle.xa_base.specs.declared.state.Standing.TheVariants.{Committed}
use Rattle.xa_base.specs.declared.step.Outcome.{Outcome}
use Rattle.xa_base.specs.declared.step.Outcome.TheVariants as outcomes
use Rattle.xa_log.specs.Contract.{Moment}
use Rattle.xa_model.specs.Promises.Agreement.{IsUndone}
use Rattle.xa_requests.specs.declared.request.Request.{Request}
use Rattle.xa_requests.specs.declared.request.Request.TheVariants as requests
use Rattle.xa_requests.specs.declared.response.Response.{Response}
use Rattle.xa_requests.specs.declared.response.Response.TheVariants as responses
use Rattle.xa_server.specs.Lines.{asked_in}
use Rattle.xa_server.specs.NamedLines.{lines_read}
use Rattle.xa_server.specs.Sessions.{AreServed, AreServed.Between, AreServed.NoneYet, AreServed.OneMore}
use Rattle.xa_server.specs.declared.server.Server.{Server}
use Rattle.xa_conduct.specs.Acting.{Acts}
use Rattle.xa_conduct.specs.Decided.{is_commit_of, is_rollback_of, is_same}

-- what was asked for decides the transaction so
abbrev pub IsDecisionOf : Outcome → Gtrid → Option Request → Type 0
IsDecisionOf outcome g (Some (requests.Decide gtrids decided)) = (decided ≡ outcome) × (list_any (is_same g) gtrids ≡ true)
IsDecisionOf outcome g _ = ⊥

-- one of these lines did, and was replied that it is decided
abbrev pub SaysDecided : Outcome → Gtrid → List (List ℕ) → List Response → Type 0
SaysDecided outcome g (line ∷ lines) (responses.Decided ∷ replies) = IsDecisionOf outcome g (asked_in line) ⊎ SaysDecided outcome g lines replies
SaysDecided outcome g (line ∷ lines) (reply ∷ replies) = SaysDecided outcome g lines replies
SaysDecided outcome g lines replies = ⊥

module _ {L : Type 0} (moment : L → Moment) where
  -- A decision on which an outcome rests that a conductor told is that of a line that was replied so: where it was asked for and done, one of the
  -- lines that led here did, and was replied that it is decided.
  abbrev pub ToldDecisionsWereMade : Type 0
  ToldDecisionsWereMade =
      (done : List Request) (first now : Server L) (acts : Acts moment done first now) (g : Gtrid)
      → (list_any (is_commit_of g) done ≡ true → SaysDecided outcomes.Commit g acts.lines acts.replies)
      × (list_any (is_rollback_of g) done ≡ true → SaysDecided outcomes.Rollback g acts.lines acts.replies)

  -- a line of one of these sessions
  abbrev pub WasDecided : (name : List ℕ) (outcome : Outcome) (g : Gtrid) (last : Option (Server L)) (f : Branch → Standing)
      → AreServed moment name last f → Type 0
  WasDecided name outcome g _ _ NoneYet = ⊥
  WasDecided name outcome g _ _ (OneMore last from to handed o told seen now left done cut before handed_on is is_left honest may) =
      SaysDecided outcome g (lines_read name is.lines) is.replies ⊎ WasDecided name outcome g last from before
  WasDecided name outcome g _ _ (Between last from to d how before was final) = WasDecided name outcome g last from before

  -- Of a transaction that was decided to commit no branch is ever rolled back or lost, and of one that was decided to roll back none is ever
  -- committed: sessions may go on, and `served` is whatever they come to.
  abbrev pub OutcomesAreTrue : Type 0
  OutcomesAreTrue =
      (name : List ℕ) (last : Option (Server L)) (f : Branch → Standing) (served : AreServed moment name last f) (b : Branch)
      → (WasDecided name outcomes.Commit b.gtrid last f served → IsUndone (f b) → ⊥)
      × (WasDecided name outcomes.Rollback b.gtrid last f served → f b ≡ Committed → ⊥)
