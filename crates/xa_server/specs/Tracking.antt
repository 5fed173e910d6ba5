-- How a session tracks what a driver tells.
use Rattle.std.specs.Prelude.{◌≡◌, ◌<◌, ℕ, false, List}
use Rattle.std.specs.List.{list_any}
use Rattle.xa_server.specs.Performing.{Performs}
use Rattle.xa_server.specs.Serving.{HaveReplies}
use Rattle.xa_server.specs.Telling.{HaveTold, Tells, is_log_fault}
use Rattle.xa_server.specs.declared.server.Server.{Server}
use Rattle.xa_base.specs.declared.state.Standing.{Standing}
use Rattle.xa_log.specs.Contract.{Moment}
use Rattle.xa_model.specs.Trace.{Branch, Origin, line}
use Rattle.xa_requests.specs.declared.request.Request.{Request}
use Rattle.xa_requests.specs.declared.response.Response.{Response}
use Rattle.xa_session.specs.Following.{StandsAtStart}
use Rattle.xa_session.specs.Session.{known_at}
use Rattle.xa_session.specs.Tracking.{KeepsTrack}
use Rattle.xa_monitor.specs.Agreement.{OwnStandAlike, StandSo, WaitsAt}
use Rattle.xa_monitor.specs.Explained.{HasOnlyOlderRows, IsExplained}
use Rattle.xa_monitor.specs.Seen.{Seen, Seen.Start}
use Rattle.xa_tm.specs.Begins.{BeginsWith}

-- the session keeps track of what a request and its reply tell
pub record TracksReply {L : Type 0} (o : Origin) (request : Request) (reply : Response) (seen : Seen) (old new : Server L) : Type 0 where
  pub more : Seen
  pub told : Tells old.session.lines.threads request reply seen more
  pub keeps : KeepsTrack o more new.session
  pub threads : new.session.lines.threads ≡ old.session.lines.threads

-- A session that keeps track of what was seen keeps track of what a request and its reply tell, unless the log failed.
abbrev pub RepliesAreTracked : {L : Type 0} → (L → Moment) → Type 0
RepliesAreTracked {L} moment =
    (o : Origin) (seen : Seen) (request : Request) (reply : Response) (old new : Server L) → KeepsTrack o seen old.session
    → Performs moment request old reply new → is_log_fault reply ≡ false → TracksReply o request reply seen old new

-- up to where the log failed, the session keeps track of what lines and their replies tell; where it didn't, up to the end
pub record TracksReplies {L : Type 0} (o : Origin) (threads : ℕ) (lines : List (List ℕ)) (replies : List Response) (seen : Seen)
    (new : Server L) : Type 0 where
  pub more : Seen
  pub told : HaveTold threads lines replies seen more
  pub last : Server L
  pub keeps : KeepsTrack o more last.session
  pub to_end : list_any is_log_fault replies ≡ false → last ≡ new

-- And so of all lines and replies.
abbrev pub SessionsAreTracked : {L : Type 0} → (L → Moment) → Type 0
SessionsAreTracked {L} moment =
    (o : Origin) (seen : Seen) (lines : List (List ℕ)) (replies : List Response) (old new : Server L) → KeepsTrack o seen old.session
    → HaveReplies moment lines replies old new → TracksReplies o old.session.lines.threads lines replies seen new

-- what lines and their replies tell since the start, up to where the log failed, has a right history
pub record AreExplained (o : Origin) (lines : List (List ℕ)) (replies : List Response) : Type 0 where
  pub seen : Seen
  pub told : HaveTold o.threads lines replies Start seen
  pub explained : IsExplained o seen

-- Whatever a driver tells a new server and is replied has a right history: of each start that has the rows and records of its log.
abbrev pub ServedSessionsAreExplained : {L : Type 0} → (L → Moment) → Type 0
ServedSessionsAreExplained {L} moment =
    (threads rms : ℕ) (lines : List (List ℕ)) (replies : List Response) (old new : Server L) → StandsAtStart threads rms old.session
    → HaveReplies moment lines replies old new → (o : Origin) → BeginsWith threads rms old.session.manager o → HasOnlyOlderRows o
    → AreExplained o lines replies

-- What lines and their replies tell since the start, up to where the log failed, has a right history; and databases that obey the branch
-- state table then agree: wherever their branches may stand, those of a transaction that this session began are alike.
pub record DatabasesAgree {L : Type 0} (o : Origin) (lines : List (List ℕ)) (replies : List Response) (new : Server L) : Type 0 where
  pub seen : Seen
  pub told : HaveTold o.threads lines replies Start seen
  pub explained : IsExplained o seen
  -- on each line the same calls wait by each such history, in order: at the end the first is the one that `waiting` tells
  pub last : Server L
  pub to_end : list_any is_log_fault replies ≡ false → last ≡ new
  pub waiting : (t r n : ℕ) → t < o.threads → r < o.rms → WaitsAt o seen (line t r) n (known_at last.session.lines t r n)
  pub agree : (f : Branch → Standing) → StandSo o seen f → OwnStandAlike o.incarnation f

-- Whatever a driver tells a new server and is replied, databases that obey the branch state table agree: behind each line.
abbrev pub ServedDatabasesAgree : {L : Type 0} → (L → Moment) → Type 0
ServedDatabasesAgree {L} moment =
    (threads rms : ℕ) (lines : List (List ℕ)) (replies : List Response) (old new : Server L) → StandsAtStart threads rms old.session
    → HaveReplies moment lines replies old new → (o : Origin) → BeginsWith threads rms old.session.manager o → HasOnlyOlderRows o
    → DatabasesAgree o lines replies new
