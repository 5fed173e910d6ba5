-- What each request does, and what it is replied.
use Rattle.std.specs.Prelude.{◌≡◌, Bool, true, false}
use Rattle.xa_base.specs.declared.refusal.Refusal.TheVariants.{LogFault}
use Rattle.xa_server.specs.Calls.{PerformsAnswer, PerformsIssue}
use Rattle.xa_server.specs.Crashes.{PerformsCrashLine, PerformsCrashRm}
use Rattle.xa_server.specs.Decisions.{PerformsAbandon, PerformsBegin, PerformsClaim, PerformsDecide, PerformsDone, PerformsSettle}
use Rattle.xa_server.specs.Looks.{status_of, waiting_reply}
use Rattle.xa_server.specs.Recoveries.{PerformsOwed, PerformsResolve, PerformsResolveOpen}
use Rattle.xa_server.specs.Releasing.{ReleasesAll, ended_by}
use Rattle.xa_server.specs.Standing.{OnlyTells}
use Rattle.xa_server.specs.declared.server.Server.{Server}
use Rattle.xa_requests.specs.declared.request.Request.{Request}
use Rattle.xa_requests.specs.declared.request.Request.TheVariants as requests
use Rattle.xa_requests.specs.declared.response.Response.{Response}
use Rattle.xa_requests.specs.declared.response.Response.TheVariants as responses
use Rattle.xa_log.specs.Contract.{Moment}
use Rattle.xa_session.specs.Following.{StaysAs}
use Rattle.xa_session.specs.Logging.{KeepsLog}

module _ {L : Type 0} where
  -- what is done, and so replied
  abbrev pub Does : Request → (old : Server L) → Response → (new : Server L) → Type 0
  Does (requests.Begin thread) old reply new = PerformsBegin thread old reply new
  Does (requests.Issue thread rm call) old reply new = PerformsIssue thread rm call old reply new
  Does (requests.Answer thread rm name answer) old reply new = PerformsAnswer thread rm name answer old reply new
  Does (requests.Decide gtrids outcome) old reply new = PerformsDecide gtrids outcome old reply new
  Does (requests.Claim gtrid) old reply new = PerformsClaim gtrid old reply new
  Does (requests.Settle gtrid) old reply new = PerformsSettle gtrid old reply new
  Does (requests.Abandon gtrid) old reply new = PerformsAbandon gtrid old reply new
  Does (requests.Done gtrids) old reply new = PerformsDone gtrids old reply new
  Does (requests.Resolve rm) old reply new = PerformsResolve rm old reply new
  Does (requests.ResolveOpen rm) old reply new = PerformsResolveOpen rm old reply new
  Does (requests.Waiting thread rm) old reply new = OnlyTells (waiting_reply thread rm old) old reply new
  Does (requests.Owed rm) old reply new = PerformsOwed rm old reply × (new ≡ old)
  Does (requests.CrashLine thread rm) old reply new = PerformsCrashLine thread rm old reply new
  Does (requests.CrashRm rm) old reply new = PerformsCrashRm rm old reply new
  Does requests.Status old reply new = OnlyTells (status_of old) old reply new
  Does requests.Quit old reply new = OnlyTells responses.Bye old reply new

-- and then what is over is forgotten of the transactions whose last step that may have been. The log keeps what the book says
pub record Performs {L : Type 0} (moment : L → Moment) (request : Request) (old : Server L) (reply : Response) (new : Server L) : Type 0 where
  pub mid : Server L
  pub does : Does request old reply mid
  pub releases : ReleasesAll (ended_by request reply) mid new
  pub keeps : KeepsLog moment old.session.manager new.session.manager

-- ** what isn't done

-- the request is done whole or not at all
abbrev pub is_one_step : Request → Bool
is_one_step (requests.CrashRm rm) = false
is_one_step request = true

-- the reply tells that the request wasn't done, for another reason than a fault of the log
abbrev pub is_not_done : Response → Bool
is_not_done (responses.Refused LogFault) = false
is_not_done (responses.Refused refusal) = true
is_not_done (responses.Fault fault) = true
is_not_done reply = false

-- nothing that the server says changed
abbrev pub ChangesNothing : {L : Type 0} → (old new : Server L) → Type 0
ChangesNothing old new = StaysAs old.session new.session
