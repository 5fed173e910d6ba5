-- Requests that only look.
use Rattle.std.specs.Prelude.{ℕ, if◌then◌else◌, Option, Some, None}
use Rattle.xa_base.specs.Xid.{Xid}
use Rattle.xa_base.specs.declared.call.Call.{Call}
use Rattle.xa_base.specs.declared.refusal.Refusal.TheVariants.{Limit}
use Rattle.xa_server.specs.declared.server.Server.{Server}
use Rattle.xa_line.specs.Grid.{grid_has_line}
use Rattle.xa_requests.specs.declared.response.Response.{Response}
use Rattle.xa_requests.specs.declared.response.Response.TheVariants as responses
use Rattle.xa_session.specs.Session.{first_waiting}
use Rattle.xa_tm.specs.Calls.{book_in}

abbrev pub first_reply : Option (Call Xid) → Response
first_reply None = responses.Nothing
first_reply (Some call) = responses.Waits call

-- the call that waits first on a line
abbrev pub waiting_reply : {L : Type 0} → (thread rm : ℕ) → Server L → Response
waiting_reply thread rm c =
    if grid_has_line c.session.lines thread rm then first_reply (first_waiting c.session.lines thread rm) else responses.Refused Limit

-- whether the manager is up, and how much has happened
abbrev pub status_of : {L : Type 0} → Server L → Response
status_of c = responses.Status (book_in c.session.manager).up c.session.happenings
