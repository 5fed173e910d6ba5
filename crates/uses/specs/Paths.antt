-- Processes one after another, each of which opens the log at one path and serves a driver over it.
use Rattle.std.specs.Prelude.{◌≡◌, ◌⊎◌, ◌<◌, ℕ, false, List, [], ◌∷◌, ◌++◌, length, map, Some}
use Rattle.std.specs.List.{list_any}
use Rattle.sqlite.specs.Recovery.{Image}
use Rattle.sqlite.specs.Tree.{Trees}
use Rattle.xa_base.specs.StateTable.{broken}
use Rattle.xa_base.specs.declared.state.Standing.TheVariants.{Unstarted}
use Rattle.xa_log.specs.Content.{Content, nothing}
use Rattle.xa_log.specs.Contract.{Moment}
use Rattle.xa_model.specs.Trace.{Branch, Line, Origin}
use Rattle.xa_monitor.specs.Agreement.{MayAllStand}
use Rattle.xa_monitor.specs.Seen.{Seen, Seen.Start}
use Rattle.xa_monitor.specs.Standings.{Comes}
use Rattle.xa_base.specs.declared.refusal.Refusal.TheVariants.{LogFault}
use Rattle.xa_requests.specs.declared.request.Request.{Request}
use Rattle.xa_requests.specs.declared.response.Response.{Response}
use Rattle.xa_requests.specs.declared.response.Response.TheVariants as responses
use Rattle.xa_server.specs.LeftSessions.{AreFoundDecided, AreLeftAlike, Databases, GoesOnFromLeft, HaveLeft, under}
use Rattle.xa_server.specs.Faults.{MayChangeRows}
use Rattle.xa_server.specs.Lines.{asked_in, text_lines}
use Rattle.xa_server.specs.NamedLines.{line_read, lines_read, text_written}
use Rattle.xa_server.specs.Serving.{AreTurns, EndsAtLastOr, Turn, replies_given, requests_done, told_in}
use Rattle.xa_server.specs.Telling.{HaveTold, is_log_fault}
use Rattle.xa_server.specs.declared.server.Server.{Server}
use Rattle.xa_sql_log.specs.ClosedFiles.{HoldsWhole}
use Rattle.xa_sql_log.specs.FoundFiles.{IsFoundIn}
use Rattle.xa_sql_log.specs.Rows.{content_of}
use Rattle.xa_sql_log.specs.Sql.{AreLogTrees}
use Rattle.xa_tm.specs.Calls.{log_in}

-- ** one session

-- The driver was told the first line of a session of a manager of this name, and a line for each
-- line of what was read of its text: up to `quit`, or all.
pub record IsRepliedUnder (name text written : List ℕ) : Type 0 where
  pub read : List ℕ
  pub unread : List ℕ
  pub greeting : Response
  pub turns : List Turn
  pub whole : text ≡ read ++ unread
  pub lines : AreTurns (text_lines read) turns
  pub replied : written ≡ text_written name (told_in greeting turns)
  pub ends : EndsAtLastOr (map (λ turn. turn.reply) turns) (unread ≡ [])

-- These lines were replied, none by a failure of the log: all of them; or all but the last, a
-- `decide`, a `settle` or a `done` in which the log failed, as it does if the program is killed
-- there.
abbrev pub WereReplied : (name : List ℕ) → List Turn → List (List ℕ) → List Response → Type 0
WereReplied name turns lines replies =
    (list_any is_log_fault replies ≡ false)
    × (((requests_done turns ≡ lines) × (replies_given turns ≡ replies))
    ⊎ ((line : List ℕ) × (request : Request) × (requests_done turns ≡ lines ++ line ∷ [])
    × (replies_given turns ≡ replies ++ responses.Refused LogFault ∷ []) × (length lines ≡ length replies)
    × (asked_in (line_read name line) ≡ Some request) × MayChangeRows request))

-- A driver that writes this text was served over a log, and this was written; this log is left.
pub record IsSessionOver {L : Type 0} (moment : L → Moment) (name : List ℕ) (handed : L) (text written : List ℕ) (left : L) : Type 0 where
  pub told : IsRepliedUnder name text written
  pub last : Server L
  pub log : left ≡ log_in last.session.manager
  pub honest : (moment left).is_honest → (moment handed).is_honest
  pub goes_on :
      (lines : List (List ℕ)) (replies : List Response) → WereReplied name told.turns lines replies → (moment left).is_honest
      → GoesOnFromLeft moment name lines replies handed last

-- ** one process

-- The files hold a log with this content: the database file is empty, and it is an empty one; or
-- they are those of a log that was closed; or whatever an open may find in them is such a log.
abbrev pub IsHeldInFiles : Content → Image → Type 0
IsHeldInFiles c image =
    ((length image.db ≡ 0) × (c ≡ nothing))
    ⊎ (HoldsWhole c image ⊎ ((db : Trees) → IsFoundIn image db → AreLogTrees db × (content_of db ≡ c)))

-- It opened the log in files with these contents, and served a driver that writes this text over
-- it; this was written, and this log is left.
pub record IsProcess {L : Type 0} (moment : L → Moment) (image : Image) (name text written : List ℕ) (left : L) : Type 0 where
  pub opened : L
  pub order : (c : Content) → IsHeldInFiles c image → (moment opened).is_in_order
  pub finds : (c : Content) → IsHeldInFiles c image → (moment opened).is_honest → (moment opened).content ≡ Some c
  pub session : IsSessionOver moment name opened text written left

-- ** two of them

-- the log has this, or a crash of its store may leave it
abbrev pub LeavesIt : Moment → Content → Type 0
LeavesIt m c = (m.content ≡ Some c) ⊎ m.may_leave c

-- From their starts, these lines and their replies tell what is seen. Wherever the branches of this
-- manager may then stand at databases that obey the table, if no branch was there at first: those
-- of any transaction are alike, the log decides of what is prepared still, and what the second
-- found prepared with its row commits; so says `AreLeftAlike`.
pub record AgreeAfterBoth {M : Type 0} (moment : M → Moment) (name : List ℕ) (mid : Content) (left : M) (one_lines two_lines : List (List ℕ))
    (one_replies two_replies : List Response) : Type 0 where
  pub one : Origin
  pub two : Origin
  pub one_seen : Seen
  pub two_seen : Seen
  pub later : mid.incarnation < two.incarnation
  pub one_told : HaveTold one.threads (lines_read name one_lines) one_replies Start one_seen
  pub two_told : HaveTold two.threads (lines_read name two_lines) two_replies Start two_seen
  pub agree :
      (one_done one_cut two_done two_cut : List Line) (from to : Databases) (found : List Branch) (c : Content)
      → MayAllStand one one_seen (λ b. Comes one_seen b Unstarted) one_done one_cut (under name from)
      → MayAllStand two two_seen (λ b. Comes two_seen b (broken (under name from b))) two_done two_cut (under name to)
      → AreFoundDecided name from mid found → LeavesIt (moment left) c → AreLeftAlike name to c found

-- Two processes, one after the other, each of which may have stopped in a request in which its log
-- failed, over the files at one path, each of which supposes of these what it finds: the first that
-- they hold an empty log, and the second that they hold what the first left. The one's log and the
-- other's have types of their own.
pub record AreTwoProcesses {L M : Type 0} (moment : L → Moment) (later : M → Moment) (image found : Image) (name one two one_written two_written : List ℕ)
    (left : M) : Type 0 where
  pub mid : L
  pub first : IsProcess moment image name one one_written mid
  pub second : IsProcess later found name two two_written left
  pub agree :
      (content : Content) (one_lines two_lines : List (List ℕ)) (one_replies two_replies : List Response) → IsHeldInFiles nothing image
      → (moment mid).is_honest → LeavesIt (moment mid) content → IsHeldInFiles content found → (later left).is_honest
      → WereReplied name first.session.told.turns one_lines one_replies → WereReplied name second.session.told.turns two_lines two_replies
      → AgreeAfterBoth later name content left one_lines two_lines one_replies two_replies
