-- What a conductor does with its server: requests in turn, each of which a driver might have asked for by a line of its own.
use Rattle.std.specs.Prelude.{ℕ, Bool, true, false, List, [], ◌∷◌, ◌++◌, Option, Some, None, if◌then◌else◌}
use Rattle.xa_log.specs.Contract.{Moment}
use Rattle.xa_requests.specs.declared.request.Request.{Request}
use Rattle.xa_requests.specs.declared.response.Response.{Response}
use Rattle.xa_requests.specs.declared.response.Response.TheVariants as responses
use Rattle.xa_server.specs.Lines.{asked_in}
use Rattle.xa_server.specs.Serving.{HaveReplies}
use Rattle.xa_server.specs.declared.server.Server.{Server}
use Rattle.xa_conduct.specs.Decided.{AsksNoLess}

-- the request was done that is replied so
abbrev pub is_done : Response → Bool
is_done (responses.Refused refusal) = false
is_done (responses.Fault fault) = false
is_done reply = true

abbrev pub done_by : Option Request → Response → List Request
done_by None reply = []
done_by (Some request) reply = if is_done reply then request ∷ [] else []

-- what these lines asked for, as far as it was done
abbrev pub done_of : List (List ℕ) → List Response → List Request
done_of (line ∷ lines) (reply ∷ replies) = done_by (asked_in line) reply ++ done_of lines replies
done_of lines replies = []

module _ {L : Type 0} (moment : L → Moment) where
  -- Some lines, of one request each, lead from the one to the other, with these replies. So whatever is proved of sessions of drivers
  -- (`served_sessions_agree`) is proved of conducted ones. All of these requests were asked for by them, and done.
  pub record Acts (done : List Request) (old new : Server L) : Type 0 where
    pub lines : List (List ℕ)
    pub replies : List Response
    pub replied : HaveReplies moment lines replies old new
    pub asked : AsksNoLess done (done_of lines replies)

  -- what such lines led to from the first server, they still do
  abbrev pub GoesOn : (old new : Server L) → Type 0
  GoesOn old new = (done : List Request) (first : Server L) → Acts done first old → Acts done first new

  -- and all of these requests were done besides
  abbrev pub GoesOnBy : List Request → (old new : Server L) → Type 0
  GoesOnBy more old new = (done : List Request) (first : Server L) → Acts done first old → Acts (done ++ more) first new
