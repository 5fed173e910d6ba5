-- Sessions of drivers one after another, of a manager of one name, over one log and the same databases, and where all branches then stand at
-- databases that obey the branch state table. Nothing is supposed of the server: of the log only that it is in order and honest, which is
-- its library's to prove, and that it is handed on.
use Rattle.std.specs.Prelude.{◌≡◌, ◌≤◌, ◌⊎◌, ℕ, true, false, if◌then◌else◌, List, Option, Some, None, is_some}
use Rattle.std.specs.FinMap.{get, len}
use Rattle.std.specs.List.{list_any}
use Rattle.xa_base.specs.Branch.{branch_eq}
use Rattle.xa_base.specs.StateTable.{broken}
use Rattle.xa_base.specs.declared.answer.Answer.TheVariants.{Ret}
use Rattle.xa_base.specs.declared.refusal.Refusal.TheVariants.{LogFault}
use Rattle.xa_base.specs.declared.state.Standing.{Standing}
use Rattle.xa_base.specs.declared.state.Standing.TheVariants.{Committed, Completed, Prepared, Unstarted}
use Rattle.xa_server.specs.Faults.{MayChangeRows}
use Rattle.xa_server.specs.NamedLines.{lines_read}
use Rattle.xa_server.specs.Performing.{Performs}
use Rattle.xa_server.specs.Serving.{HaveReplies}
use Rattle.xa_server.specs.Telling.{HaveTold, is_log_fault}
use Rattle.xa_server.specs.Votes.{IsLogged}
use Rattle.xa_server.specs.declared.server.Server.{Server}
use Rattle.xa_log.specs.Content.{Content}
use Rattle.xa_log.specs.Contract.{Honestly, Moment}
use Rattle.xa_model.specs.Facts.{ever, handed_over, standing}
use Rattle.xa_model.specs.Promises.Agreement.{IsUndone}
use Rattle.xa_model.specs.Promises.Processes.{gone}
use Rattle.xa_model.specs.Protocol.{AllRight}
use Rattle.xa_model.specs.Trace.{Branch, Call, Code, How, Line, Origin, Trace, line}
use Rattle.xa_requests.specs.declared.request.CallName.{CallName}
use Rattle.xa_requests.specs.declared.request.Request.{Request}
use Rattle.xa_requests.specs.declared.request.Request.TheVariants as requests
use Rattle.xa_requests.specs.declared.response.Response.{Response}
use Rattle.xa_requests.specs.declared.response.Response.TheVariants as responses
use Rattle.xa_session.specs.Following.{StandsAtStart}
use Rattle.xa_session.specs.Logging.{HoldsItsBook, LeavesContent}
use Rattle.xa_session.specs.Session.{known_waiting}
use Rattle.xa_session.specs.Tracking.{IsRaisedFrom, KeepsTrack}
use Rattle.xa_monitor.specs.Agreement.{MayAllStand, StandAlike}
use Rattle.xa_monitor.specs.Explained.{HasOnlyOlderRows}
use Rattle.xa_monitor.specs.Seen.{Seen, Seen.Answered, Seen.Start}
use Rattle.xa_monitor.specs.Sessions.{FindsLog, IsCommitting}
use Rattle.xa_monitor.specs.Standings.{Comes}
use Rattle.xa_tm.specs.Begins.{BeginsWith}
use Rattle.xa_tm.specs.BookAndLog.{SameRowsAndRecords}
use Rattle.xa_tm.specs.Calls.{log_in}
use Rattle.xa_tm.specs.Started.{IsStarted, IsStartedOver}

-- ** the log, from session to session

-- it has no row and no record yet
pub record IsEmptyLog (c : Content) : Type 0 where
  pub no_rows : len c.decisions ≡ 0
  pub no_records : len c.heuristics ≡ 0

module _ {L : Type 0} (moment : L → Moment) where
  -- what the last session left of its log: what the log has, or what a crash of its store left; an empty log, before any session
  abbrev pub WasLeft : Option (Server L) → Content → Type 0
  WasLeft None c = IsEmptyLog c
  WasLeft (Some last) c = LeavesContent moment last.session.manager c

  -- A log in order has the rows and the records that were left. Starts that came to no session may have raised its incarnation.
  pub record HoldsLeft (left : Content) (handed : L) : Type 0 where
    pub order : (moment handed).is_in_order
    pub content : Content
    pub has : (moment handed).content ≡ Some content
    pub same : SameRowsAndRecords content left
    pub raised : left.incarnation ≤ content.incarnation

  -- Such a log is handed on: it holds what was left.
  pub record IsHandedOn (last : Option (Server L)) (handed : L) : Type 0 where
    pub left : Content
    pub was_left : WasLeft last left
    pub holds : HoldsLeft left handed

  -- ** one session

  -- a server starts over a log that it is handed: what `Server::new` ensures
  pub record StartsOver (threads rms : ℕ) (handed : L) (first : Server L) : Type 0 where
    pub stands : StandsAtStart threads rms first.session
    pub old : (o : Origin) → BeginsWith threads rms first.session.manager o → HasOnlyOlderRows o
    pub started : IsStarted threads rms first.session.manager
    pub over : IsStartedOver moment threads rms (moment handed) first.session.manager
    pub holds : Honestly (moment handed) (moment (log_in first.session.manager)) (HoldsItsBook moment true first.session.manager)

  -- A session of the manager of this name, over a log that was handed to it: a server started over it, and lines were replied as the manager
  -- means them, none by a failure of the log. `o` is what it started with, and `seen` what the lines and their replies tell, as the session
  -- keeps track of it: of each there is such (`ServedSessionsAreSeen`).
  pub record IsSession (name : List ℕ) (handed : L) (o : Origin) (seen : Seen) (now : Server L) : Type 0 where
    pub threads : ℕ
    pub rms : ℕ
    pub first : Server L
    pub lines : List (List ℕ)
    pub replies : List Response
    pub starts : StartsOver threads rms handed first
    pub begins : BeginsWith threads rms first.session.manager o
    pub replied : HaveReplies moment (lines_read name lines) replies first now
    pub no_fault : list_any is_log_fault replies ≡ false
    pub told : HaveTold o.threads (lines_read name lines) replies Start seen
    pub tracks : KeepsTrack o seen now.session

-- A session is left, with so much seen: after a line, as where its driver ends or the program is killed; or in a request in which its log
-- failed, as it does where the program is killed there. An answer counts as told then, whether or not its record was written.
pub data IsSessionLeft {L : Type 0} (moment : L → Moment) (seen : Seen) (now : Server L) : Seen → Server L → Type 0 where
  AfterLine : IsSessionLeft moment seen now seen now
  InRequest :
      (request : Request) (left : Server L) → MayChangeRows request → Performs moment request now (responses.Refused LogFault) left
      → IsSessionLeft moment seen now seen left
  InAnswer :
      (thread rm : ℕ) (name : CallName) (code : Code) (call : Call) (left : Server L) → known_waiting now.session.lines thread rm ≡ Some call
      → Performs moment (requests.Answer thread rm name (Ret code)) now (responses.Refused LogFault) left
      → IsSessionLeft moment seen now (Answered seen (line thread rm) call (Ret code)) left

-- ** all of them

-- Where all branches of a manager may stand after its sessions one after another, each under the same name, the last of which was left so.
-- Each is over the log that the one before it left, or that a crash left of it, the first over an empty one; each log was honest to the end.
-- Databases obey the table: before the first session no branch is there; in each the branches come to where they may by what was seen and by
-- what is under way (`MayAllStand`); between two what was open is lost, and a database may end a prepared branch by itself.
pub data AreServed {L : Type 0} (moment : L → Moment) (name : List ℕ) : Option (Server L) → (Branch → Standing) → Type 0 where
  NoneYet : AreServed moment name None (λ b. Unstarted)
  OneMore :
      (last : Option (Server L)) (from to : Branch → Standing) (handed : L) (o : Origin) (told seen : Seen) (now left : Server L)
      (done cut : List Line) → AreServed moment name last from → IsHandedOn moment last handed → IsSession moment name handed o told now
      → IsSessionLeft moment told now seen left → (moment (log_in left.session.manager)).is_honest
      → MayAllStand o seen (λ b. Comes seen b (broken (from b))) done cut to → AreServed moment name (Some left) to
  Between :
      (last : Option (Server L)) (from to : Branch → Standing) (d : Branch) (how : How) → AreServed moment name last from
      → from d ≡ Prepared → ((b : Branch) → to b ≡ (if branch_eq d b then Completed how else from b)) → AreServed moment name last to

-- No branch of any transaction then stands committed beside one that stands rolled back or lost.
abbrev pub ServedSessionsAgree : {L : Type 0} → (L → Moment) → Type 0
ServedSessionsAgree {L} moment =
    (name : List ℕ) (last : Option (Server L)) (f : Branch → Standing) → AreServed moment name last f → StandAlike f

-- A log decides of what is prepared still: it has the row of each transaction of which a branch stands committed beside one that stands
-- prepared, and no row of one of which a branch stands rolled back or lost.
pub record LogDecides (f : Branch → Standing) (log : Content) : Type 0 where
  pub committed : (b c : Branch) → b.gtrid ≡ c.gtrid → f b ≡ Committed → f c ≡ Prepared → is_some (get log.decisions b.gtrid) ≡ true
  pub undone : (b : Branch) → IsUndone (f b) → is_some (get log.decisions b.gtrid) ≡ false

-- So does the log that the last session left, and whatever a crash leaves of it.
abbrev pub ServedLogsDecide : {L : Type 0} → (L → Moment) → Type 0
ServedLogsDecide {L} moment =
    (name : List ℕ) (last : Server L) (f : Branch → Standing) (c : Content) → AreServed moment name (Some last) f
    → LeavesContent moment last.session.manager c → LogDecides f c

-- One of these sessions began where the branch stood prepared, over a log with the row of its transaction.
abbrev pub WasFoundDecidedInLog : {L : Type 0} (moment : L → Moment) (name : List ℕ) (b : Branch) (last : Option (Server L)) (f : Branch → Standing)
    → AreServed moment name last f → Type 0
WasFoundDecidedInLog moment name b _ _ NoneYet = ⊥
WasFoundDecidedInLog moment name b _ _ (OneMore last from to handed o told seen now left done cut before handed_on is is_left honest may) =
    ((from b ≡ Prepared) × IsLogged (moment handed).content b.gtrid) ⊎ WasFoundDecidedInLog moment name b last from before
WasFoundDecidedInLog moment name b _ _ (Between last from to d how before was final) = WasFoundDecidedInLog moment name b last from before

-- Such a branch is to commit; and as long as it stands prepared, the log has its row.
pub record CommitStandsInLog (f : Branch → Standing) (log : Content) (b : Branch) : Type 0 where
  pub commits : IsCommitting (f b)
  pub row_stays : f b ≡ Prepared → is_some (get log.decisions b.gtrid) ≡ true

-- So does each decision to commit that a session found, in the log that the last session left, and in whatever a crash leaves of it.
abbrev pub ServedCommitsStand : {L : Type 0} → (L → Moment) → Type 0
ServedCommitsStand {L} moment =
    (name : List ℕ) (last : Server L) (f : Branch → Standing) (c : Content) (b : Branch) (served : AreServed moment name (Some last) f)
    → WasFoundDecidedInLog moment name b (Some last) f served → LeavesContent moment last.session.manager c → CommitStandsInLog f c b

-- What lines and their replies tell is known of each session that starts over a log that it is handed, and it is one of these.
abbrev pub ServedSessionsAreSeen : {L : Type 0} → (L → Moment) → Type 0
ServedSessionsAreSeen {L} moment =
    (name : List ℕ) (threads rms : ℕ) (lines : List (List ℕ)) (replies : List Response) (handed : L) (first now : Server L)
    → StartsOver moment threads rms handed first → HaveReplies moment (lines_read name lines) replies first now
    → list_any is_log_fault replies ≡ false → (o : Origin) → BeginsWith threads rms first.session.manager o
    → (seen : Seen) × HaveTold o.threads (lines_read name lines) replies Start seen × IsSession moment name handed o seen now

-- ** their history

-- There is one right history of all of them. Once what was open is lost, it leaves each branch where that then stands, and the next start
-- finds its rows and records. Of a branch that stands committed its transaction's row was written, if that wasn't committed in one phase;
-- of one that stands rolled back or lost it never was.
pub record HasOneHistory (f : Branch → Standing) (next : Origin) : Type 0 where
  pub whole : Trace
  pub right : AllRight whole
  pub there : (b : Branch) → standing (gone whole) b ≡ broken (f b)
  pub finds : FindsLog whole next
  pub committed : (b : Branch) → f b ≡ Committed → (ever whole b.gtrid ≡ true) ⊎ (handed_over whole b.gtrid ≡ true)
  pub undone : (b : Branch) → IsUndone (f b) → ever whole b.gtrid ≡ false

-- So there is one for each start over the log that the last session left, or over what a crash left of it.
abbrev pub ServedSessionsHaveOneHistory : {L : Type 0} → (L → Moment) → Type 0
ServedSessionsHaveOneHistory {L} moment =
    (name : List ℕ) (last : Option (Server L)) (f : Branch → Standing) (c : Content) (next : Origin) → AreServed moment name last f
    → WasLeft moment last c → IsRaisedFrom c next → HasOneHistory f next
