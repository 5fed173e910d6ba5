-- That no request of a conductor is refused except for memory and the log, as a statement over its session. It is not proved.
use Rattle.std.specs.Prelude.{◌≡◌, ◌<◌, ◌+◌, ◌⊎◌, ℕ, Bool, true, false, List, []}
use Rattle.std.specs.List.{list_any}
use Rattle.xa_base.specs.declared.refusal.Refusal.TheVariants.{LogFault, Memory}
use Rattle.xa_log.specs.Contract.{Moment}
use Rattle.xa_requests.specs.declared.response.Response.{Response}
use Rattle.xa_requests.specs.declared.response.Response.TheVariants as responses
use Rattle.xa_server.specs.declared.server.Server.{Server}
use Rattle.xa_session.specs.Headroom.{first_headroom}
use Rattle.xa_conduct.specs.Acting.{Acts}
use Rattle.xa_conduct.specs.Plain.{most_gtrids}
use Rattle.xa_conduct.specs.declared.conductor.Conductor.{Conductor}

-- a request was refused since memory or the log failed
abbrev pub is_failure : Response → Bool
is_failure (responses.Refused Memory) = true
is_failure (responses.Refused LogFault) = true
is_failure reply = false

-- `Begins` is what Conductor::new gives of a server, and `Replies` how Conductor::turn goes on by a line and what it replies.
module _ {L : Type 0} (moment : L → Moment) (Begins : Server L → Conductor L → Type 0)
    (Replies : (old new : Conductor L) (line text : List ℕ) → Type 0) where
  -- a session of moves came so far
  pub data HasTurned (first : Server L) : Conductor L → Type 0 where
    Begun : (c : Conductor L) → Begins first c → HasTurned first c
    OneMore : (old new : Conductor L) (line text : List ℕ) → HasTurned first old → Replies old new line text → HasTurned first new

  -- A session is over before its driver quits only if a resource manager listed a branch of another log, or memory or the log failed in one of
  -- the requests of the last line; or if so much has happened that there is no more room for as much as one request may do.
  abbrev pub NoneIsRefused : Type 0
  NoneIsRefused =
      (first : Server L) (old new : Conductor L) (line text : List ℕ) → HasTurned first old → Replies old new line text
      → old.notes.is_stopped ≡ false → new.notes.is_stopped ≡ true
      → (new.notes.is_strange ≡ true)
      ⊎ (((acts : Acts moment [] old.server new.server) × (list_any is_failure acts.replies ≡ true))
      ⊎ (first_headroom < new.server.session.happenings + most_gtrids))
