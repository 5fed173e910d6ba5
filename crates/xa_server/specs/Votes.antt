-- Votes that are told, and the rows of the commits behind them.
use Rattle.std.specs.Prelude.{◌≡◌, ℕ, Bool, true, false, List, [], ◌∷◌, Option, Some, None, IsSome, IsSomeAnd}
use Rattle.std.specs.FinMap.{get}
use Rattle.xa_base.specs.declared.answer.Answer.TheVariants.{Ret}
use Rattle.xa_base.specs.declared.branch.Gtrid.{Gtrid}
use Rattle.xa_base.specs.declared.call.CallKind.TheVariants as Kinds
use Rattle.xa_base.specs.declared.code.Code.TheVariants.{Success}
use Rattle.xa_base.specs.declared.step.Outcome.TheVariants as Outcomes
use Rattle.xa_server.specs.Lines.{asked_in}
use Rattle.xa_server.specs.Performing.{Performs}
use Rattle.xa_server.specs.Releasing.{transaction_of}
use Rattle.xa_server.specs.Rows.{LogsRows, committed_by, is_gtrid_among}
use Rattle.xa_server.specs.Serving.{HaveReplies, RepliesTo}
use Rattle.xa_server.specs.declared.server.Server.{Server}
use Rattle.xa_log.specs.Content.{Content}
use Rattle.xa_log.specs.Contract.{Honestly, Moment}
use Rattle.xa_requests.specs.declared.request.Request.{Request}
use Rattle.xa_requests.specs.declared.request.Request.TheVariants as requests
use Rattle.xa_requests.specs.declared.response.Response.{Response}
use Rattle.xa_requests.specs.declared.response.Response.TheVariants as responses
use Rattle.xa_session.specs.Logging.{HoldsItsBook}
use Rattle.xa_tm.specs.Calls.{log_in}

-- what is told is XA_OK to the xa_prepare of a branch of the transaction
abbrev pub VotesFor : Request → Gtrid → Type 0
VotesFor (requests.Answer thread rm name answer) g = (name.kind ≡ Kinds.Prepare) × (answer ≡ Ret Success) × (transaction_of name ≡ Some g)
VotesFor request g = ⊥

abbrev pub VotesBy : Option Request → Gtrid → Type 0
VotesBy None g = ⊥
VotesBy (Some request) g = VotesFor request g

abbrev pub is_heard : Response → Bool
is_heard (responses.Heard kind number) = true
is_heard reply = false

-- each of these lines tells a vote for the transaction at its place, and is heard
abbrev pub AreVotes : List (List ℕ) → List Response → List Gtrid → Type 0
AreVotes [] [] [] = Unit
AreVotes (line ∷ lines) (reply ∷ replies) (g ∷ gs) = VotesBy (asked_in line) g × (is_heard reply ≡ true) × AreVotes lines replies gs
AreVotes lines replies gs = ⊥

-- the transaction has a row
abbrev pub IsLogged : Option Content → Gtrid → Type 0
IsLogged log g = IsSomeAnd log (λ c. IsSome (get c.decisions g))

-- Whatever is told as decided, the rows of its commits are in the log (`LogsRows`).
abbrev pub CommitsAreLogged : {L : Type 0} → (L → Moment) → Type 0
CommitsAreLogged {L} moment =
    (request : Request) (old new : Server L) (reply : Response) → Performs moment request old reply new
    → LogsRows moment (committed_by request) old.session reply new.session

-- Behind votes for these transactions, all of them are told as committed: then the log has the row of each.
abbrev pub VotedCommitsAreLogged : {L : Type 0} → (L → Moment) → Type 0
VotedCommitsAreLogged {L} moment =
    (near : Bool) (votes : List (List ℕ)) (heard : List Response) (line : List ℕ) (gs : List Gtrid) (old mid new : Server L) (g : Gtrid)
    → AreVotes votes heard gs → HaveReplies moment votes heard old mid → asked_in line ≡ Some (requests.Decide gs Outcomes.Commit)
    → RepliesTo moment line mid responses.Decided new → is_gtrid_among gs g ≡ true
    → Honestly (moment (log_in old.session.manager)) (moment (log_in new.session.manager))
    (HoldsItsBook moment near old.session.manager → IsLogged (moment (log_in new.session.manager)).content g)
