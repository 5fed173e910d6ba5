-- What managers of different names tell their drivers.
use Rattle.std.specs.Prelude.{◌≡◌, ◌≢◌, ℕ, List, Option, Some, None, All, IfSome}
use Rattle.std.specs.Option.{option_map}
use Rattle.xa_base.specs.Call.{xid_in}
use Rattle.xa_base.specs.Xid.{Xid}
use Rattle.xa_base.specs.declared.call.Call.{Call}
use Rattle.xa_server.specs.Performing.{Performs}
use Rattle.xa_server.specs.declared.server.Server.{Server}
use Rattle.xa_log.specs.Contract.{Moment}
use Rattle.xa_model.specs.Trace.{Origin}
use Rattle.xa_names.specs.Names.{IsUnder, renamed}
use Rattle.xa_requests.specs.declared.request.Request.{Request}
use Rattle.xa_requests.specs.declared.response.Response.{Response}
use Rattle.xa_requests.specs.declared.response.Response.TheVariants as responses
use Rattle.xa_session.specs.Tracking.{KeepsTrack}
use Rattle.xa_monitor.specs.Explained.{HasOnlyOlderRows}
use Rattle.xa_monitor.specs.Seen.{Seen}

-- the identifier of a call, if it is on a branch, is written as one of this name
abbrev pub IsOnOwn : List ℕ → Call Xid → Type 0
IsOnOwn name call = IfSome (xid_in call) (λ x. IsUnder name (renamed name x))

-- so is each call that a reply tells the driver to make, and each branch that it tells as owed
abbrev pub TellsOwn : List ℕ → Response → Type 0
TellsOwn name (responses.Issued call) = IsOnOwn name call
TellsOwn name (responses.Waits call) = IsOnOwn name call
TellsOwn name (responses.Owed xids) = All (λ x. IsUnder name (renamed name x)) xids.items
TellsOwn name reply = Unit

-- a session that keeps track of what was seen, from an old log, gave this reply to some request
pub record Replied {L : Type 0} (moment : L → Moment) (old new : Server L) (reply : Response) : Type 0 where
  pub start : Origin
  pub is_old : HasOnlyOlderRows start
  pub seen : Seen
  pub keeps : KeepsTrack start seen old.session
  pub request : Request
  pub performs : Performs moment request old reply new

-- A manager tells its driver calls on identifiers of its own name alone.
abbrev pub RepliesTellOwn : {L : Type 0} → (L → Moment) → Type 0
RepliesTellOwn {L} moment = (name : List ℕ) (reply : Response) (old new : Server L) → Replied moment old new reply → TellsOwn name reply

-- the identifier of the call that a reply tells, as it is written
abbrev pub told_xid : List ℕ → Response → Option Xid
told_xid name (responses.Issued call) = option_map (renamed name) (xid_in call)
told_xid name (responses.Waits call) = option_map (renamed name) (xid_in call)
told_xid name reply = None

-- Managers of different names never tell their drivers calls on the same identifier.
abbrev pub ManagersAreApart : {L : Type 0} → (L → Moment) → Type 0
ManagersAreApart {L} moment =
    (m n : List ℕ) (p q : Response) (a b c d : Server L) → m ≢ n → Replied moment a b p → Replied moment c d q
    → (x : Xid) → told_xid m p ≡ Some x → told_xid n q ≡ Some x → ⊥
