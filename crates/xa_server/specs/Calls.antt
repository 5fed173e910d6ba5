-- Requests to make calls, and what was answered to them.
use Rattle.std.specs.Prelude.{◌⊎◌, ℕ, Bool, true, false, not, ◌&&◌, MatchBool, Option, Some, None, Result, Ok, Err}
use Rattle.xa_base.specs.Answer.{answer_number}
use Rattle.xa_base.specs.Call.{are_alike, kind_of, xid_in}
use Rattle.xa_base.specs.Xid.{Xid, xid_eq}
use Rattle.xa_base.specs.declared.answer.Answer.{Answer}
use Rattle.xa_base.specs.declared.call.Call.{Call}
use Rattle.xa_server.specs.Replies.{response_of}
use Rattle.xa_server.specs.Standing.{LacksMemory, OnlyTells, StandsFor}
use Rattle.xa_server.specs.declared.server.Server.{Server}
use Rattle.xa_line.specs.Grid.{Grid}
use Rattle.xa_requests.specs.declared.request.CallName.{CallName}
use Rattle.xa_requests.specs.declared.response.RequestFault.TheVariants as faults
use Rattle.xa_requests.specs.declared.response.Response.{Response}
use Rattle.xa_requests.specs.declared.response.Response.TheVariants as responses
use Rattle.xa_session.specs.Session.{first_waiting}
use Rattle.xa_session.specs.Steps.{Hears, Issues}
use Rattle.xa_session.specs.declared.session.answers.Unfit.{Unfit}
use Rattle.xa_session.specs.declared.session.answers.Unfit.TheVariants as Unfits

-- ** which call an answer is to

abbrev pub are_same : Option Xid → Option Xid → Bool
are_same None None = true
are_same (Some x) (Some y) = xid_eq x y
are_same x y = false

-- the call is of this kind, and on this branch
abbrev pub is_to : Call Xid → CallName → Bool
is_to call name = are_alike (kind_of call) name.kind && are_same (xid_in call) name.xid

abbrev pub is_other : Option (Call Xid) → CallName → Bool
is_other None name = false
is_other (Some call) name = not (is_to call name)

-- another call than that of this name waits first on the line
abbrev pub waits_for_other : Grid → (thread rm : ℕ) → CallName → Bool
waits_for_other lines thread rm name = is_other (first_waiting lines thread rm) name

-- ** what is replied

-- an answer that is heard is replied so, and one that isn't by its refusal or its fault
abbrev pub answer_reply : Response → Result (Unit {0}) Unfit → Response
answer_reply reply (Ok x) = reply
answer_reply reply (Err (Unfits.Refused n)) = responses.Refused n
answer_reply reply (Err Unfits.NothingWaits) = responses.Fault faults.NothingWaits
answer_reply reply (Err Unfits.NoSuchAnswer) = responses.Fault faults.NoSuchAnswer
answer_reply reply (Err (Unfits.NoSuchState b)) = responses.Fault faults.NoSuchState

module _ {L : Type 0} where
  abbrev pub PerformsIssue : (thread rm : ℕ) → Call Xid → (old : Server L) → Response → (new : Server L) → Type 0
  PerformsIssue thread rm call = StandsFor (Issues thread rm call) (response_of (λ _. responses.Issued call))

  -- an answer to another call is a fault; else it is heard, if there is memory to copy it
  abbrev pub PerformsAnswer : (thread rm : ℕ) → CallName → Answer Xid → (old : Server L) → Response → (new : Server L) → Type 0
  PerformsAnswer thread rm name answer old reply new =
      MatchBool (waits_for_other old.session.lines thread rm name)
      (OnlyTells (responses.Fault faults.OtherCall) old reply new)
      (StandsFor (Hears thread rm answer) (answer_reply (responses.Heard name.kind (answer_number answer))) old reply new ⊎ LacksMemory old reply new)
