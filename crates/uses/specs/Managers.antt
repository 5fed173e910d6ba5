-- Two drivers are served by managers of two names, over the same resource managers.
use Rattle.std.specs.Prelude.{◌≡◌, ◌≢◌, ℕ, false, List, [], ◌++◌, map, Some, IsSomeAnd}
use Rattle.std.specs.List.{AllByRecursion, list_any}
use Rattle.xa_base.specs.Xid.{Xid}
use Rattle.xa_base.specs.declared.state.Standing.{Standing}
use Rattle.xa_base.specs.declared.state.Standing.TheVariants.{Unstarted}
use Rattle.xa_server.specs.LeftSessions.{BothAgree, Databases, under}
use Rattle.xa_server.specs.Lines.{text_lines}
use Rattle.xa_server.specs.Managers.{told_xid}
use Rattle.xa_server.specs.NamedLines.{ServesUnder, lines_read, text_written}
use Rattle.xa_server.specs.Replies.{greeting_of}
use Rattle.xa_server.specs.Serving.{AreTurns, EndsAtLastOr, Turn, replies_given, requests_done, told_in}
use Rattle.xa_server.specs.Sessions.{IsEmptyLog}
use Rattle.xa_server.specs.Telling.{HaveTold, is_log_fault}
use Rattle.xa_server.specs.declared.server.Server.{Server}
use Rattle.xa_log.specs.Content.{Content}
use Rattle.xa_log.specs.Contract.{Moment}
use Rattle.xa_model.specs.Trace.{Branch, Line, Origin}
use Rattle.xa_requests.specs.declared.response.Response.{Response}
use Rattle.xa_requests.specs.declared.response.Response.TheVariants as responses
use Rattle.xa_session.specs.Following.{StandsAtStart}
use Rattle.xa_monitor.specs.Agreement.{MayAllStand, OwnStandAlike, StandSo}
use Rattle.xa_monitor.specs.Explained.{HasOnlyOlderRows, IsExplained}
use Rattle.xa_monitor.specs.Seen.{Seen, Seen.Start}
use Rattle.xa_monitor.specs.Standings.{Comes}
use Rattle.uses.specs.Paths.{IsSessionOver, LeavesIt, WereReplied}
use Rattle.xa_tm.specs.Begins.{BeginsWith}

-- A driver of so many threads and resource managers that writes this text was served by a
-- coordinator of this name that started over some log, and this was written.
pub record IsServedFrom {L : Type 0} (moment : L → Moment) (name : List ℕ) (threads rms : ℕ) (text written : List ℕ) : Type 0 where
  pub first : Server L
  pub last : Server L
  pub unread : List ℕ
  pub stands : StandsAtStart threads rms first.session
  pub old : (o : Origin) → BeginsWith threads rms first.session.manager o → HasOnlyOlderRows o
  pub serves : ServesUnder moment name (greeting_of first) (Some text) (Some unread) (Some []) (Some written) first last

-- The driver was told the first line of a session, and a line for each line of what was read of its
-- text: up to `quit`, or all. What these tell, as a manager of this name means them and until the
-- log failed, has a right history; and wherever the branches then stand at databases that obey the
-- table, those of a transaction of this session are alike.
pub record IsServedUnder (name : List ℕ) (threads rms : ℕ) (text written : List ℕ) : Type 0 where
  pub read : List ℕ
  pub unread : List ℕ
  pub start : Origin
  pub decisions : ℕ
  pub heuristics : ℕ
  pub turns : List Turn
  pub seen : Seen
  pub threads_are : start.threads ≡ threads
  pub rms_are : start.rms ≡ rms
  pub whole : text ≡ read ++ unread
  pub lines : AreTurns (text_lines read) turns
  pub replied : written ≡ text_written name (told_in (responses.Restarted start.incarnation decisions heuristics) turns)
  pub ends : EndsAtLastOr (map (λ turn. turn.reply) turns) (unread ≡ [])
  pub told : HaveTold threads (lines_read name (requests_done turns)) (replies_given turns) Start seen
  pub explained : IsExplained start seen
  pub agree : (f : Branch → Standing) → StandSo start seen f → OwnStandAlike start.incarnation f

-- none of the first replies, of a manager of the name m, tells a call on an identifier that one of
-- the others, of n, tells a call on
abbrev pub TellApart : (m n : List ℕ) → (ps qs : List Response) → Type 0
TellApart m n ps qs = AllByRecursion (λ p. AllByRecursion (λ q. (x : Xid) → told_xid m p ≡ Some x → told_xid n q ≡ Some x → ⊥) qs) ps

-- Two drivers were served so, by managers of these names. If the names differ, and neither log
-- failed, no call that one driver was told is on an identifier of a call that the other was told.
pub record AreServedApart (m n : List ℕ) (threads rms : ℕ) (first second first_written second_written : List ℕ) : Type 0 where
  pub one : IsServedUnder m threads rms first first_written
  pub two : IsServedUnder n threads rms second second_written
  pub apart :
      m ≢ n → list_any is_log_fault (replies_given one.turns) ≡ false → list_any is_log_fault (replies_given two.turns) ≡ false
      → TellApart m n (replies_given one.turns) (replies_given two.turns)

-- ** over the same databases

-- the log is in order, and empty
abbrev pub HoldsNothing : Moment → Type 0
HoldsNothing m = m.is_in_order × IsSomeAnd m.content IsEmptyLog

-- From their starts, these lines and their replies tell what is seen of each manager. Wherever all
-- identifiers then stand at databases that obey the table, if no branch of either was there at
-- first: the branches of each manager are alike, and no identifier is of a branch of both.
pub record AgreeBeside (m n : List ℕ) (one_lines two_lines : List (List ℕ)) (one_replies two_replies : List Response) : Type 0 where
  pub one : Origin
  pub two : Origin
  pub one_seen : Seen
  pub two_seen : Seen
  pub one_told : HaveTold one.threads (lines_read m one_lines) one_replies Start one_seen
  pub two_told : HaveTold two.threads (lines_read n two_lines) two_replies Start two_seen
  pub agree :
      (one_done one_cut two_done two_cut : List Line) (F : Databases)
      → MayAllStand one one_seen (λ b. Comes one_seen b Unstarted) one_done one_cut (under m F)
      → MayAllStand two two_seen (λ b. Comes two_seen b Unstarted) two_done two_cut (under n F) → BothAgree m n F

-- Two drivers were served by managers of these names, each over an empty log of its own, and over
-- the same databases.
pub record AreServedBeside {L : Type 0} (moment : L → Moment) (m n : List ℕ) (log other : L) (first second first_written second_written : List ℕ)
    : Type 0 where
  pub left : L
  pub beside : L
  pub one : IsSessionOver moment m log first first_written left
  pub two : IsSessionOver moment n other second second_written beside
  pub agree :
      (c d : Content) (one_lines two_lines : List (List ℕ)) (one_replies two_replies : List Response) → m ≢ n → HoldsNothing (moment log)
      → HoldsNothing (moment other) → (moment left).is_honest → (moment beside).is_honest → WereReplied m one.told.turns one_lines one_replies
      → WereReplied n two.told.turns two_lines two_replies → LeavesIt (moment left) c → LeavesIt (moment beside) d
      → AgreeBeside m n one_lines two_lines one_replies two_replies
