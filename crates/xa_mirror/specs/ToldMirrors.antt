-- What a mirror has of a log, by what a driver told and was replied: it writes the row of a
-- transaction to the mirror before it issues an xa_commit of a branch of it, and takes it away
-- only once the row has left the log, or all that it waits for are committed.
use Rattle.std.specs.Prelude.{◌≡◌, ◌≤◌, ◌⊎◌, ℕ, true, List, Option, is_some}
use Rattle.std.specs.FinMap.{get}
use Rattle.xa_base.specs.Branch.{gtrid_eq}
use Rattle.xa_base.specs.StateTable.{broken}
use Rattle.xa_base.specs.declared.answer.Answer.TheVariants.{Page}
use Rattle.xa_base.specs.declared.call.Call.TheVariants as Calls
use Rattle.xa_base.specs.declared.state.Standing.{Standing}
use Rattle.xa_base.specs.declared.state.Standing.TheVariants.{Committed}
use Rattle.xa_log.specs.Content.{Content, participants_of}
use Rattle.xa_log.specs.Contract.{Moment}
use Rattle.xa_log.specs.KeySet.{contains}
use Rattle.xa_mirror.specs.Mirrors.{IsMirrorFor}
use Rattle.xa_model.specs.Facts.{lists_one_of}
use Rattle.xa_model.specs.Trace.{Branch, Gtrid, Happening.Issued, Happening.Resolved, Happening.ResolvedOpen, Line, Origin}
use Rattle.xa_monitor.specs.Agreement.{MayAllStand, StandAlike}
use Rattle.xa_monitor.specs.Seen.{Seen, Seen.Answered, Seen.Did, Seen.Lost, Seen.Start}
use Rattle.xa_monitor.specs.Standings.{Comes}
use Rattle.xa_server.specs.HeardEnds.{WasToldEndServed}
use Rattle.xa_server.specs.Sessions.{AreServed, AreServed.Between, AreServed.NoneYet, AreServed.OneMore, HoldsLeft, IsSession, IsSessionLeft, LogDecides, WasLeft}
use Rattle.xa_server.specs.Transactions.{HasNoRowOf, HasRowOf}
use Rattle.xa_server.specs.Votes.{IsLogged}
use Rattle.xa_server.specs.declared.server.Server.{Server}
use Rattle.xa_session.specs.Logging.{LeavesContent}
use Rattle.xa_tm.specs.Calls.{log_in}

-- ** what a session told

-- a page of the resource manager that lists a branch of the transaction was heard
abbrev pub IsListed : Gtrid → (rm : ℕ) → Seen → Type 0
IsListed g r Start = ⊥
IsListed g r (Did seen e) = IsListed g r seen
IsListed g r (Answered seen l c (Page names)) = ((l.rm ≡ r) × (lists_one_of g names ≡ true)) ⊎ IsListed g r seen
IsListed g r (Answered seen l c a) = IsListed g r seen
IsListed g r (Lost seen l c) = IsListed g r seen

-- an xa_commit of a branch of the transaction was issued, or a page of a resource manager was
-- resolved of which one had listed such a branch
abbrev pub IsCommitIssued : Gtrid → Seen → Type 0
IsCommitIssued g Start = ⊥
IsCommitIssued g (Did seen (Issued l (Calls.Commit b one_phase))) = (gtrid_eq b.gtrid g ≡ true) ⊎ IsCommitIssued g seen
IsCommitIssued g (Did seen (Resolved r)) = IsListed g r seen ⊎ IsCommitIssued g seen
IsCommitIssued g (Did seen (ResolvedOpen r)) = IsListed g r seen ⊎ IsCommitIssued g seen
IsCommitIssued g (Did seen e) = IsCommitIssued g seen
IsCommitIssued g (Answered seen l c a) = IsCommitIssued g seen
IsCommitIssued g (Lost seen l c) = IsCommitIssued g seen

-- No lines of these sessions and their replies tell that.
abbrev pub NoCommitIssued : {L : Type 0} (moment : L → Moment) (name : List ℕ) (g : Gtrid) (last : Option (Server L)) (f : Branch → Standing)
    → AreServed moment name last f → Type 0
NoCommitIssued moment name g _ _ NoneYet = Unit
NoCommitIssued moment name g _ _ (OneMore last from to handed o told seen now left done cut before handed_on is is_left honest may) =
    (IsCommitIssued g told → ⊥) × NoCommitIssued moment name g last from before
NoCommitIssued moment name g _ _ (Between last from to d how before was final) = NoCommitIssued moment name g last from before

-- One of these sessions was handed a log with the row of the transaction.
abbrev pub WasHandedRow : {L : Type 0} (moment : L → Moment) (name : List ℕ) (g : Gtrid) (last : Option (Server L)) (f : Branch → Standing)
    → AreServed moment name last f → Type 0
WasHandedRow moment name g _ _ NoneYet = ⊥
WasHandedRow moment name g _ _ (OneMore last from to handed o told seen now left done cut before handed_on is is_left honest may) =
    IsLogged (moment handed).content g ⊎ WasHandedRow moment name g last from before
WasHandedRow moment name g _ _ (Between last from to d how before was final) = WasHandedRow moment name g last from before

-- The answer to an xa_commit told them that a branch of the transaction is committed.
abbrev pub WasToldCommitted : {L : Type 0} (moment : L → Moment) (name : List ℕ) (g : Gtrid) (last : Option (Server L)) (f : Branch → Standing)
    → AreServed moment name last f → Type 0
WasToldCommitted moment name g last f served = (b : Branch) × (b.gtrid ≡ g) × WasToldEndServed moment name b Committed last f served

-- Answers to xa_commit told them that all are committed that its row waits for.
abbrev pub AllToldCommitted : {L : Type 0} (moment : L → Moment) (name : List ℕ) (g : Gtrid) (last : Option (Server L)) (f : Branch → Standing)
    → AreServed moment name last f → (log : Content) → Type 0
AllToldCommitted moment name g last f served log =
    (b : Branch) → contains (participants_of log g) b ≡ true → WasToldEndServed moment name b Committed last f served

-- ** what the mirror has

-- What a mirror has of a transaction, after such sessions. Of one that it lacks no xa_commit was
-- issued, or all are told to be committed that the row waits for. Of one whose row left the log
-- they were told that a branch is committed, or one of them was handed a log with the row.
pub record IsToldMirror {L : Type 0} (moment : L → Moment) (name : List ℕ) (g : Gtrid) (last : Option (Server L)) (f : Branch → Standing)
    (served : AreServed moment name last f) (log mirror : Content) : Type 0 where
  pub later : log.incarnation ≤ mirror.incarnation
  pub missing : HasRowOf log g → HasNoRowOf mirror g → NoCommitIssued moment name g last f served ⊎ AllToldCommitted moment name g last f served log
  pub more : HasNoRowOf log g → HasRowOf mirror g → WasToldCommitted moment name g last f served ⊎ WasHandedRow moment name g last f served
  pub same : HasRowOf log g → HasRowOf mirror g → get mirror.decisions g ≡ get log.decisions g
  pub records : (b : Branch) → b.gtrid ≡ g → is_some (get mirror.heuristics b) ≡ true → is_some (get log.heuristics b) ≡ true

-- So it has what a mirror has of it, wherever its branches stand.
abbrev pub ToldMirrorsAreMirrors : {L : Type 0} → (L → Moment) → Type 0
ToldMirrorsAreMirrors {L} moment =
    (name : List ℕ) (g : Gtrid) (last : Option (Server L)) (f : Branch → Standing) (served : AreServed moment name last f) (log mirror : Content)
    → WasLeft moment last log → IsToldMirror moment name g last f served log mirror → IsMirrorFor g f log mirror

-- ** what follows

-- Sessions of a manager are served over one log, which is lost then, and made anew of such a
-- mirror. Over that a further session is served. Then no branch of any transaction stands
-- committed beside one that stands rolled back or lost, and the log that this session leaves
-- decides of what is prepared still.
abbrev pub ToldFailoversAgree : {L : Type 0} → (L → Moment) → Type 0
ToldFailoversAgree {L} moment =
    (name : List ℕ) (last : Option (Server L)) (from to : Branch → Standing) (c d e : Content) (handed : L) (o : Origin) (told seen : Seen)
    (now left : Server L) (done cut : List Line) (served : AreServed moment name last from)
    → WasLeft moment last c → ((g : Gtrid) → IsToldMirror moment name g last from served c d) → HoldsLeft moment d handed
    → IsSession moment name handed o told now → IsSessionLeft moment told now seen left → (moment (log_in left.session.manager)).is_honest
    → MayAllStand o seen (λ b. Comes seen b (broken (from b))) done cut to → LeavesContent moment left.session.manager e
    → StandAlike to × LogDecides to e
