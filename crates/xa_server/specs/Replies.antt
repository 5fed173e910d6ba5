-- What is replied.
use Rattle.std.specs.Prelude.{◌+◌, Result, Ok, Err}
use Rattle.std.specs.FinMap.{len}
use Rattle.xa_base.specs.declared.refusal.Refusal.{Refusal}
use Rattle.xa_server.specs.declared.server.Server.{Server}
use Rattle.xa_log.specs.Content.{Content}
use Rattle.xa_requests.specs.declared.response.Response.{Response}
use Rattle.xa_requests.specs.declared.response.Response.TheVariants as responses
use Rattle.xa_tm.specs.Calls.{book_in}

-- a step that is taken is replied so, and one that isn't by its refusal
abbrev pub response_of : {A : Type 0} → (A → Response) → Result A Refusal → Response
response_of taken (Ok x) = taken x
response_of taken (Err n) = responses.Refused n

-- the first line of a session: its incarnation, and how many rows and records its log has
abbrev pub greeting_of : {L : Type 0} → Server L → Response
greeting_of c =
    responses.Restarted (book_in c.session.manager).incarnation (book_in c.session.manager).rows (book_in c.session.manager).records

-- that of a session that starts over a log with this in it
abbrev pub greeting_over : Content → Response
greeting_over c = responses.Restarted (c.incarnation + 1) (len c.decisions) (len c.heuristics)
