-- Sessions of faithful drivers one after another. The theorem of sessions speaks of them, so
-- databases agree.
use Rattle.std.specs.Prelude.{◌≡◌, ℕ, Bool, true, false, if◌then◌else◌, List, ◌++◌, Option, Some, None, is_some}
use Rattle.std.specs.FinMap.{get}
use Rattle.xa_base.specs.Branch.{branch_eq, gtrid_eq}
use Rattle.xa_base.specs.StateTable.{broken}
use Rattle.xa_base.specs.declared.state.Standing.{Standing}
use Rattle.xa_base.specs.declared.state.Standing.TheVariants.{Completed, Prepared, Unstarted}
use Rattle.xa_drivers.specs.Deeds.{Deeds, ObeyTable, seen_of, stands}
use Rattle.xa_drivers.specs.Faithful.{IsFaithful}
use Rattle.xa_log.specs.Content.{Content}
use Rattle.xa_log.specs.Contract.{Moment}
use Rattle.xa_model.specs.Trace.{Branch, Gtrid, How, Line, Origin}
use Rattle.xa_monitor.specs.Agreement.{StandAlike}
use Rattle.xa_monitor.specs.Seen.{Seen}
use Rattle.xa_monitor.specs.Standings.{Comes}
use Rattle.xa_server.specs.LeftSessions.{AreFoundDecided, Databases, HaveLeft, under}
use Rattle.xa_server.specs.Sessions.{AreServed, HoldsLeft, IsEmptyLog, IsHandedOn, IsSession, IsSessionLeft}
use Rattle.xa_server.specs.Transactions.{AreServedFor, IsAlike, MayStandFor, MayTurn}
use Rattle.xa_server.specs.declared.server.Server.{Server}
use Rattle.xa_session.specs.Logging.{LeavesContent}
use Rattle.xa_tm.specs.Calls.{log_in}

-- ** one session

-- where the branches stand as a session begins: what was open is lost
abbrev pub at_start : (Branch → Standing) → Branch → Standing
at_start from b = broken (from b)

-- These are the deeds of a faithful driver in a session from this start, and they tell its
-- coordinator what that saw.
pub record AreDeeds (o : Origin) (from : Branch → Standing) (seen : Seen) (ds : Deeds) : Type 0 where
  pub tell : seen_of ds ≡ seen
  pub faithful : IsFaithful o (at_start from) ds

-- ** all of them

-- Where all branches of a manager stand after sessions of faithful drivers one after another. It
-- is `AreServed` of `xa_server`, with deeds in place of what that supposes of where branches
-- stand: in each session the driver is faithful, and the databases obey the table.
pub data AreDriven {L : Type 0} (moment : L → Moment) (name : List ℕ) : Option (Server L) → (Branch → Standing) → Type 0 where
  NoneYet : AreDriven moment name None (λ b. Unstarted)
  OneMore :
      (last : Option (Server L)) (from : Branch → Standing) (handed : L) (o : Origin) (told seen : Seen) (now left : Server L) (ds : Deeds)
      → AreDriven moment name last from → IsHandedOn moment last handed → IsSession moment name handed o told now
      → IsSessionLeft moment told now seen left → (moment (log_in left.session.manager)).is_honest → AreDeeds o from seen ds
      → ObeyTable (λ b. true) (at_start from) ds → AreDriven moment name (Some left) (stands (at_start from) ds)
  Between :
      (last : Option (Server L)) (from to : Branch → Standing) (d : Branch) (how : How) → AreDriven moment name last from
      → from d ≡ Prepared → ((b : Branch) → to b ≡ (if branch_eq d b then Completed how else from b)) → AreDriven moment name last to

-- So these are sessions of which the theorem of sessions speaks.
abbrev pub DrivenAreServed : {L : Type 0} → (L → Moment) → Type 0
DrivenAreServed {L} moment =
    (name : List ℕ) (last : Option (Server L)) (f : Branch → Standing) → AreDriven moment name last f → AreServed moment name last f

-- No branch of any transaction then stands committed beside one that stands rolled back or lost.
abbrev pub DrivenSessionsAgree : {L : Type 0} → (L → Moment) → Type 0
DrivenSessionsAgree {L} moment =
    (name : List ℕ) (last : Option (Server L)) (f : Branch → Standing) → AreDriven moment name last f → StandAlike f

-- ** processes of which each has a log of a type of its own

-- One session more of a manager of this name, over a log in order that holds what was left
-- (`SessionsGoOn` of `xa_server`), by a faithful driver over databases that obey the table. What
-- its log then holds is left, and the databases as the deeds leave them.
abbrev pub DrivenSessionsGoOn : {L : Type 0} → (L → Moment) → Type 0
DrivenSessionsGoOn {L} moment =
    (name : List ℕ) (from to : Databases) (c d : Content) (found more : List Branch) (handed : L) (o : Origin) (told seen : Seen)
    (now left : Server L) (ds : Deeds)
    → HaveLeft name from c found → AreFoundDecided name from c more → HoldsLeft moment c handed → IsSession moment name handed o told now
    → IsSessionLeft moment told now seen left → (moment (log_in left.session.manager)).is_honest → AreDeeds o (under name from) seen ds
    → ObeyTable (λ b. true) (at_start (under name from)) ds → ((b : Branch) → under name to b ≡ stands (at_start (under name from)) ds b)
    → LeavesContent moment left.session.manager d → HaveLeft name to d (more ++ found)

-- ** one transaction alone

-- the branches of this transaction
abbrev pub is_in_transaction : Gtrid → Branch → Bool
is_in_transaction g b = gtrid_eq b.gtrid g

-- The branches of one transaction stand where the theorem of one transaction supposes.
pub record StandByToldFor (g : Gtrid) (o : Origin) (from : Branch → Standing) (ds : Deeds) : Type 0 where
  pub done : List Line
  pub cut : List Line
  pub may : MayStandFor g o (seen_of ds) (λ b. Comes (seen_of ds) b (from b)) done cut (stands from ds)

-- So they do if the driver is faithful and the databases obey the table as far as its branches go.
abbrev pub DriversSufficeFor : Type 0
DriversSufficeFor =
    (g : Gtrid) (o : Origin) (from : Branch → Standing) (ds : Deeds) → IsFaithful o from ds → ObeyTable (is_in_transaction g) from ds
    → StandByToldFor g o from ds

-- Where the branches of one transaction stand after such sessions: `AreServedFor` of `xa_server`,
-- with deeds.
pub data AreDrivenFor {L : Type 0} (moment : L → Moment) (name : List ℕ) (g : Gtrid) : Content → (Branch → Standing) → Type 0 where
  NoneYet : (c : Content) → IsEmptyLog c → AreDrivenFor moment name g c (λ b. Unstarted)
  OneMore :
      (c d : Content) (from : Branch → Standing) (handed : L) (o : Origin) (told seen : Seen) (now left : Server L) (ds : Deeds)
      → AreDrivenFor moment name g c from → HoldsLeft moment c handed → IsSession moment name handed o told now
      → IsSessionLeft moment told now seen left → (moment (log_in left.session.manager)).is_honest → AreDeeds o from seen ds
      → ObeyTable (is_in_transaction g) (at_start from) ds → LeavesContent moment left.session.manager d
      → AreDrivenFor moment name g d (stands (at_start from) ds)
  Between :
      (c : Content) (from to : Branch → Standing) (d : Branch) → AreDrivenFor moment name g c from → MayTurn (is_some (get c.decisions g)) (from d) (to d)
      → ((b : Branch) → b.gtrid ≡ g → branch_eq d b ≡ false → to b ≡ from b) → AreDrivenFor moment name g c to

-- None of its branches stands committed beside one that stands rolled back or lost, and the log
-- that is left decides of what is prepared.
abbrev pub DrivenTransactionsAgree : {L : Type 0} → (L → Moment) → Type 0
DrivenTransactionsAgree {L} moment =
    (name : List ℕ) (g : Gtrid) (c : Content) (f : Branch → Standing) → AreDrivenFor moment name g c f → IsAlike g f c

abbrev pub DrivenAreServedFor : {L : Type 0} → (L → Moment) → Type 0
DrivenAreServedFor {L} moment =
    (name : List ℕ) (g : Gtrid) (c : Content) (f : Branch → Standing) → AreDrivenFor moment name g c f → AreServedFor moment name g c f
