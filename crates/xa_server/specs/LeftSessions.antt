-- Sessions of a manager one after another, each over a log of whatever type: what one hands to the next is what its log holds. So the files at
-- a path may be opened by one process after another, each of which supposes of them only what the one before it left.
use Rattle.std.specs.Prelude.{◌≡◌, ◌≢◌, ◌<◌, ℕ, false, if◌then◌else◌, All, List, [], ◌++◌, Option, Some}
use Rattle.std.specs.List.{Contains, list_any}
use Rattle.xa_base.specs.Branch.{IsBranch, branch_eq}
use Rattle.xa_base.specs.StateTable.{broken}
use Rattle.xa_base.specs.Xid.{Xid}
use Rattle.xa_base.specs.declared.state.Standing.{Standing}
use Rattle.xa_base.specs.declared.state.Standing.TheVariants.{Completed, Prepared, Unstarted}
use Rattle.xa_log.specs.Content.{Content}
use Rattle.xa_log.specs.Contract.{Moment}
use Rattle.xa_model.specs.Facts.{fits}
use Rattle.xa_model.specs.Trace.{Branch, How, Line, Origin}
use Rattle.xa_monitor.specs.Agreement.{MayAllStand, StandAlike}
use Rattle.xa_monitor.specs.Seen.{Seen, Seen.Start}
use Rattle.xa_monitor.specs.Sessions.{AfterSessions, Finds, Log, WasFoundDecided}
use Rattle.xa_monitor.specs.Standings.{Comes}
use Rattle.xa_names.specs.Names.{xid_under}
use Rattle.xa_requests.specs.declared.response.Response.{Response}
use Rattle.xa_server.specs.NamedLines.{lines_read}
use Rattle.xa_server.specs.Serving.{HaveReplies}
use Rattle.xa_server.specs.Sessions.{AreServed, CommitStandsInLog, HasOneHistory, HoldsLeft, IsEmptyLog, IsSession, IsSessionLeft, LogDecides, StartsOver}
use Rattle.xa_server.specs.Telling.{HaveTold, is_log_fault}
use Rattle.xa_server.specs.Votes.{IsLogged}
use Rattle.xa_server.specs.declared.server.Server.{Server}
use Rattle.xa_session.specs.Logging.{LeavesContent}
use Rattle.xa_session.specs.Tracking.{IsRaisedFrom}
use Rattle.xa_tm.specs.Calls.{log_in}

-- ** the databases

-- where each identifier stands at each resource manager
abbrev pub Databases : Type 0
Databases = (rm : ℕ) → Xid → Standing

-- where the branches of a manager of this name stand there; one whose numbers don't fit has no identifier, and is never started
abbrev pub under : List ℕ → Databases → Branch → Standing
under name F b = if fits b then F b.rm (xid_under name b) else Unstarted

-- However branches stand, if those without an identifier aren't started, there are such databases.
abbrev pub StandingsAreUnder : Type 0
StandingsAreUnder =
    (name : List ℕ) (f : Branch → Standing) → ((b : Branch) → fits b ≡ false → f b ≡ Unstarted)
    → (F : Databases) × ((b : Branch) → under name F b ≡ f b)

-- ** what is left

-- A start goes on from sessions, of any logs, that left the branches so: it finds the log that the last of them left. Such branches one of
-- them found prepared, over a log with the row of their transaction.
pub record IsBehind (f : Branch → Standing) (Decided : Branch → Type 0) (next : Origin) : Type 0 where
  pub log : Log
  pub after : AfterSessions log f
  pub finds : Finds log next
  pub decided : (b : Branch) → Decided b → WasFoundDecided b log f after

-- Sessions of the manager of this name left the databases so, and a log that holds this: each start over such a log goes on from them. These
-- branches one of them found prepared, over a log with the row of their transaction.
pub record HaveLeft (name : List ℕ) (F : Databases) (c : Content) (found : List Branch) : Type 0 where
  pub behind : (next : Origin) → IsRaisedFrom c next → IsBehind (under name F) (Contains found) next

-- the branches of the manager stand prepared, and the log has the row of their transaction
abbrev pub AreFoundDecided : List ℕ → Databases → Content → List Branch → Type 0
AreFoundDecided name F c bs = All (λ b. (under name F b ≡ Prepared) × IsLogged (Some c) b.gtrid) bs

-- ** how it comes to be

-- Before the first session no branch is there, and the log is empty.
abbrev pub SessionsBegin : Type 0
SessionsBegin = (name : List ℕ) (c : Content) → IsEmptyLog c → HaveLeft name (λ r x. Unstarted) c []

-- One session more, over a log in order that has what was left, and that is honest to the end. Databases obey the table (`MayAllStand`). What
-- its log then holds, or a crash of its store leaves of it, is left.
abbrev pub SessionsGoOn : {L : Type 0} → (L → Moment) → Type 0
SessionsGoOn {L} moment =
    (name : List ℕ) (from to : Databases) (c d : Content) (found more : List Branch) (handed : L) (o : Origin) (told seen : Seen)
    (now left : Server L) (done cut : List Line)
    → HaveLeft name from c found → AreFoundDecided name from c more → HoldsLeft moment c handed → IsSession moment name handed o told now
    → IsSessionLeft moment told now seen left → (moment (log_in left.session.manager)).is_honest
    → MayAllStand o seen (λ b. Comes seen b (broken (under name from b))) done cut (under name to)
    → LeavesContent moment left.session.manager d → HaveLeft name to d (more ++ found)

-- What the lines of a session and their replies tell, from its start. Where its log has what was left, and wherever databases that obey the
-- table then stand, this is left of them and of what the log holds at the end, or a crash of its store leaves of it.
pub record GoesOnFromLeft {L : Type 0} (moment : L → Moment) (name : List ℕ) (lines : List (List ℕ)) (replies : List Response) (handed : L) (last : Server L)
    : Type 0 where
  pub start : Origin
  pub seen : Seen
  pub told : HaveTold start.threads (lines_read name lines) replies Start seen
  pub raised : (c : Content) → HoldsLeft moment c handed → c.incarnation < start.incarnation
  pub leaves :
      (from to : Databases) (c d : Content) (found more : List Branch) (done cut : List Line) → HaveLeft name from c found
      → AreFoundDecided name from c more → HoldsLeft moment c handed
      → MayAllStand start seen (λ b. Comes seen b (broken (under name from b))) done cut (under name to)
      → LeavesContent moment last.session.manager d → HaveLeft name to d (more ++ found)

-- So it is of each session that a server serves over a log that stays honest: it starts over the log, and replies to these lines as a manager
-- of the name means them, to none by a failure of the log. It is left after a line, or in a request in which its log failed.
abbrev pub ServedSessionsGoOn : {L : Type 0} → (L → Moment) → Type 0
ServedSessionsGoOn {L} moment =
    (name : List ℕ) (threads rms : ℕ) (lines : List (List ℕ)) (replies : List Response) (handed : L) (first now left : Server L)
    → StartsOver moment threads rms handed first → HaveReplies moment (lines_read name lines) replies first now
    → list_any is_log_fault replies ≡ false → ((seen : Seen) → IsSessionLeft moment seen now seen left)
    → (moment (log_in left.session.manager)).is_honest → GoesOnFromLeft moment name lines replies handed left

-- And between two a database may end a prepared branch by itself.
abbrev pub SessionsWait : Type 0
SessionsWait =
    (name : List ℕ) (from to : Databases) (c : Content) (found : List Branch) (d : Branch) (how : How) → HaveLeft name from c found
    → under name from d ≡ Prepared → ((b : Branch) → under name to b ≡ (if branch_eq d b then Completed how else under name from b))
    → HaveLeft name to c found

-- ** what follows

-- No branch of any transaction then stands committed beside one that stands rolled back or lost. The log decides of what is prepared still;
-- a branch that was found decided commits, or its database ends it by itself; and there is one right history of all of them.
pub record AreLeftAlike (name : List ℕ) (F : Databases) (c : Content) (found : List Branch) : Type 0 where
  pub agree : StandAlike (under name F)
  pub rows : LogDecides (under name F) c
  pub decided : (b : Branch) → Contains found b → CommitStandsInLog (under name F) c b
  pub history : (next : Origin) → IsRaisedFrom c next → HasOneHistory (under name F) next

abbrev pub LeftSessionsAgree : Type 0
LeftSessionsAgree = (name : List ℕ) (F : Databases) (c : Content) (found : List Branch) → HaveLeft name F c found → AreLeftAlike name F c found

-- ** managers of different names

-- Over databases that two managers share the branches of each stand alike, and no identifier is one of both.
pub record BothAgree (m n : List ℕ) (F : Databases) : Type 0 where
  pub one : StandAlike (under m F)
  pub other : StandAlike (under n F)
  pub apart : (b c : Branch) → IsBranch b → IsBranch c → xid_under m b ≢ xid_under n c

-- So it is where managers of different names served over them, each over logs of its own.
abbrev pub ManagersAgree : Type 0
ManagersAgree =
    (F : Databases) (m n : List ℕ) (c d : Content) (found others : List Branch) → m ≢ n → HaveLeft m F c found → HaveLeft n F d others
    → BothAgree m n F

-- The same of sessions that are told server by server.
abbrev pub ServedManagersAgree : {L : Type 0} → (L → Moment) → Type 0
ServedManagersAgree {L} moment =
    (F : Databases) (m n : List ℕ) (p q : Option (Server L)) → m ≢ n → AreServed moment m p (under m F) → AreServed moment n q (under n F)
    → BothAgree m n F
