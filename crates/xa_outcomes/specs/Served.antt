-- What a server told of the outcome of a transaction is so, after all of its sessions.
use Rattle.std.specs.Prelude.{◌≡◌, ◌≤◌, ◌⊎◌, ℕ, true, List, map, Option, Some, is_some}
use Rattle.std.specs.FinMap.{get}
use Rattle.std.specs.Global.{Vec}
use Rattle.xa_base.specs.Branch.{branch_cmp, gtrid_eq, xid_of_branch}
use Rattle.xa_base.specs.Xid.{Xid}
use Rattle.xa_base.specs.declared.branch.Gtrid.{Gtrid}
use Rattle.xa_base.specs.declared.state.Standing.{Standing}
use Rattle.xa_base.specs.declared.state.Standing.TheVariants.{Committed, Prepared}
use Rattle.xa_base.specs.declared.step.Outcome.TheVariants as Outcomes
use Rattle.xa_log.specs.Content.{Content}
use Rattle.xa_log.specs.Contract.{Moment}
use Rattle.xa_log.specs.KeySet.{KeySet, contains, items}
use Rattle.xa_model.specs.Facts.{has_gtrid}
use Rattle.xa_model.specs.Promises.Agreement.{IsUndone}
use Rattle.xa_model.specs.Trace.{Branch, Fault, Happening.CompletedAlone, How, Origin, Trace, Trace.Then}
use Rattle.xa_monitor.specs.Seen.{Seen}
use Rattle.xa_monitor.specs.Sessions.{IsCommitting, nothing_yet}
use Rattle.xa_outcomes.specs.Outcomes.{IsSeenDecided, IsDecidedAfterVote, IsEndedAs, IsHandedOver, SaidYes, TellsHeuristic}
use Rattle.xa_outcomes.specs.Parts.{IsPart}
use Rattle.xa_requests.specs.declared.request.Request.{Request}
use Rattle.xa_requests.specs.declared.request.Request.TheVariants as requests
use Rattle.xa_requests.specs.declared.response.Response.TheVariants as responses
use Rattle.xa_server.specs.Recoveries.{PerformsOwed}
use Rattle.xa_server.specs.Rows.{OwesRowsOf}
use Rattle.xa_server.specs.Sessions.{AreServed, AreServed.Between, AreServed.NoneYet, AreServed.OneMore, HasOneHistory, IsSessionLeft, IsSessionLeft.AfterLine, IsSessionLeft.InAnswer, IsSessionLeft.InRequest, WasLeft}
use Rattle.xa_server.specs.Transactions.{AreServedFor, HasNoRowOf, WasLeftUndecided}
use Rattle.xa_server.specs.Votes.{IsLogged}
use Rattle.xa_server.specs.declared.server.Server.{Server}
use Rattle.xa_session.specs.Logging.{LeavesContent}
use Rattle.xa_session.specs.Tracking.{IsRaisedFrom}
use Rattle.xa_tm.specs.BookAndLog.{SameRowsAndRecords}
use Rattle.xa_tm.specs.Calls.{book_in}

-- ** the parts of the one history

-- A session is the last part of it: what its lines and their replies tell, or that and the answer
-- in which its log failed.
pub record IsServedPart (o : Origin) (told seen : Seen) (past whole : Trace) : Type 0 where
  pub kept : Seen
  pub is_kept : (kept ≡ told) ⊎ (kept ≡ seen)
  pub fails : Option Fault
  pub part : IsPart o kept fails past whole

-- The history is of these sessions, each a part of it, in their order.
abbrev pub IsOfServed : {L : Type 0} (moment : L → Moment) (name : List ℕ) (last : Option (Server L)) (f : Branch → Standing)
    → AreServed moment name last f → Trace → Type 0
IsOfServed moment name _ _ NoneYet whole = whole ≡ nothing_yet 0
IsOfServed moment name _ _ (OneMore last from to handed o told seen now left done cut before handed_on is is_left honest may) whole =
    (past : Trace) × IsOfServed moment name last from before past × IsServedPart o told seen past whole
IsOfServed moment name _ _ (Between last from to d how before was final) whole =
    (past : Trace) × IsOfServed moment name last from before past × (whole ≡ Then past (CompletedAlone d how))

-- the one right history of them, for a start over the log that the last one left
pub record HaveServedHistory {L : Type 0} (moment : L → Moment) (name : List ℕ) (last : Option (Server L)) (f : Branch → Standing)
    (served : AreServed moment name last f) (next : Origin) : Type 0 where
  pub history : HasOneHistory f next
  pub parts : IsOfServed moment name last f served history.whole

abbrev pub ServedSessionsAreParts : {L : Type 0} → (L → Moment) → Type 0
ServedSessionsAreParts {L} moment =
    (name : List ℕ) (last : Option (Server L)) (f : Branch → Standing) (c : Content) (next : Origin) (served : AreServed moment name last f)
    → WasLeft moment last c → IsRaisedFrom c next → HaveServedHistory moment name last f served next

-- ** never decided

-- the request decides to commit it
abbrev pub AsksToCommit : Gtrid → Request → Type 0
AsksToCommit g (requests.Decide gs Outcomes.Commit) = has_gtrid gs g ≡ true
AsksToCommit g (requests.Settle h) = gtrid_eq h g ≡ true
AsksToCommit g request = ⊥

-- the session was left in such a request
abbrev pub IsLeftCommitting : {L : Type 0} (moment : L → Moment) → Gtrid → (told : Seen) (now : Server L) (seen : Seen) (left : Server L)
    → IsSessionLeft moment told now seen left → Type 0
IsLeftCommitting moment g told now _ _ AfterLine = ⊥
IsLeftCommitting moment g told now _ _ (InRequest request left changes performs) = AsksToCommit g request
IsLeftCommitting moment g told now _ _ (InAnswer t r name code call left waits performs) = ⊥

-- None of these sessions told that it was decided to commit, nor that an xa_commit in one phase of
-- a branch of it waits, nor was left in a request to commit it.
abbrev pub WasNeverToldDecided : {L : Type 0} (moment : L → Moment) (name : List ℕ) (g : Gtrid) (last : Option (Server L)) (f : Branch → Standing)
    → AreServed moment name last f → Type 0
WasNeverToldDecided moment name g _ _ NoneYet = Unit
WasNeverToldDecided moment name g _ _ (OneMore last from to handed o told seen now left done cut before handed_on is is_left honest may) =
    (IsSeenDecided g told → ⊥) × (IsHandedOver g told → ⊥) × (IsLeftCommitting moment g told now seen left is_left → ⊥)
    × WasNeverToldDecided moment name g last from before
WasNeverToldDecided moment name g _ _ (Between last from to d how before was final) = WasNeverToldDecided moment name g last from before

-- Then none of its branches is committed. So it may be told as rolled back, and nobody need be
-- asked.
abbrev pub NeverToldIsNeverCommitted : {L : Type 0} → (L → Moment) → Type 0
NeverToldIsNeverCommitted {L} moment =
    (name : List ℕ) (last : Server L) (f : Branch → Standing) (c : Content) (served : AreServed moment name (Some last) f) (b : Branch)
    → LeavesContent moment last.session.manager c → WasNeverToldDecided moment name b.gtrid (Some last) f served → f b ≡ Committed → ⊥

-- ** a decision whose reply never came

-- The branch is committed, or stands prepared still, or its database ended it by itself. No branch
-- of its transaction is rolled back or lost; and as long as one stands prepared, the log that is
-- left has the row.
pub record WillCommitInLog (f : Branch → Standing) (log : Content) (b : Branch) : Type 0 where
  pub commits : IsCommitting (f b)
  pub none_undone : (c : Branch) → c.gtrid ≡ b.gtrid → IsUndone (f c) → ⊥
  pub row_stays : (c : Branch) → c.gtrid ≡ b.gtrid → f c ≡ Prepared → is_some (get log.decisions b.gtrid) ≡ true

-- None of these sessions told so, except that the last of them may have been left in a request to
-- commit it.
abbrev pub IsUntoldSoFar : {L : Type 0} (moment : L → Moment) (name : List ℕ) (g : Gtrid) (last : Option (Server L)) (f : Branch → Standing)
    → AreServed moment name last f → Type 0
IsUntoldSoFar moment name g _ _ NoneYet = Unit
IsUntoldSoFar moment name g _ _ (OneMore last from to handed o told seen now left done cut before handed_on is is_left honest may) =
    (IsSeenDecided g told → ⊥) × (IsHandedOver g told → ⊥) × WasNeverToldDecided moment name g last from before
IsUntoldSoFar moment name g _ _ (Between last from to d how before was final) = IsUntoldSoFar moment name g last from before

-- Then none of its branches is committed yet; and if the log that is left has no row of it, these
-- are sessions that left it undecided (`WasLeftUndecided`), so that none ever is.
pub record IsLeftUndecided {L : Type 0} (moment : L → Moment) (name : List ℕ) (g : Gtrid) (c : Content) (f : Branch → Standing) : Type 0 where
  pub alone : AreServedFor moment name g c f
  pub uncommitted : (b : Branch) → b.gtrid ≡ g → f b ≡ Committed → ⊥
  pub undecided : HasNoRowOf c g → g.incarnation ≤ c.incarnation → WasLeftUndecided moment name g c f alone

abbrev pub UntoldIsLeftUndecided : {L : Type 0} → (L → Moment) → Type 0
UntoldIsLeftUndecided {L} moment =
    (name : List ℕ) (last : Server L) (f : Branch → Standing) (c : Content) (served : AreServed moment name (Some last) f) (g : Gtrid)
    → LeavesContent moment last.session.manager c → IsUntoldSoFar moment name g (Some last) f served → IsLeftUndecided moment name g c f

-- One of these sessions told the branch's vote XA_OK.
abbrev pub WasToldYes : {L : Type 0} (moment : L → Moment) (name : List ℕ) (b : Branch) (last : Option (Server L)) (f : Branch → Standing)
    → AreServed moment name last f → Type 0
WasToldYes moment name b _ _ NoneYet = ⊥
WasToldYes moment name b _ _ (OneMore last from to handed o told seen now left done cut before handed_on is is_left honest may) =
    SaidYes b told ⊎ WasToldYes moment name b last from before
WasToldYes moment name b _ _ (Between last from to d how before was final) = WasToldYes moment name b last from before

-- One of these sessions began over a log with the row of the branch's transaction, and one before
-- it had told the branch's vote XA_OK.
abbrev pub HasFoundRow : {L : Type 0} (moment : L → Moment) (name : List ℕ) (b : Branch) (last : Option (Server L)) (f : Branch → Standing)
    → AreServed moment name last f → Type 0
HasFoundRow moment name b _ _ NoneYet = ⊥
HasFoundRow moment name b _ _ (OneMore last from to handed o told seen now left done cut before handed_on is is_left honest may) =
    (IsLogged (moment handed).content b.gtrid × WasToldYes moment name b last from before) ⊎ HasFoundRow moment name b last from before
HasFoundRow moment name b _ _ (Between last from to d how before was final) = HasFoundRow moment name b last from before

-- So will it be then, whether or not the reply to its decision ever came.
abbrev pub FoundRowsWillCommit : {L : Type 0} → (L → Moment) → Type 0
FoundRowsWillCommit {L} moment =
    (name : List ℕ) (last : Server L) (f : Branch → Standing) (c : Content) (served : AreServed moment name (Some last) f) (b : Branch)
    → LeavesContent moment last.session.manager c → HasFoundRow moment name b (Some last) f served → WillCommitInLog f c b

-- What `owed` is replied by at a start: the identifiers of these branches, and the log has the row
-- of each.
pub record AreOwedRows (log : Content) (told : List Xid) : Type 0 where
  pub set : KeySet branch_cmp
  pub told_are : told ≡ map xid_of_branch (items set)
  pub rows : (b : Branch) → contains set b ≡ true → is_some (get log.decisions b.gtrid) ≡ true

abbrev pub OwedAreLogged : Type 0 → Type 0
OwedAreLogged L =
    (first : Server L) (rm : ℕ) (told : Vec Xid) (c : Content) → OwesRowsOf (book_in first.session.manager) c
    → PerformsOwed rm first (responses.Owed told) → AreOwedRows c told.items

-- What `owed` of a branch's resource manager is replied by tells whether the log has the row of its
-- transaction: the branch is among these exactly if it does.
pub record TellsOfRow (log : Content) (b : Branch) (told : List Xid) : Type 0 where
  pub set : KeySet branch_cmp
  pub told_are : told ≡ map xid_of_branch (items set)
  pub tells : contains set b ≡ is_some (get log.decisions b.gtrid)

-- It does at a start over the log that is left, of a branch whose vote XA_OK one of these sessions
-- told, also if the last one was left in a request to commit it.
abbrev pub OwedTellsOfRows : {L : Type 0} → (L → Moment) → Type 0
OwedTellsOfRows {L} moment =
    (name : List ℕ) (last : Server L) (f : Branch → Standing) (c : Content) (served : AreServed moment name (Some last) f) (b : Branch)
    → LeavesContent moment last.session.manager c → WasToldYes moment name b (Some last) f served
    → (first : Server L) (told : Vec Xid) (found : Content) → SameRowsAndRecords found c → OwesRowsOf (book_in first.session.manager) found
    → PerformsOwed b.rm first (responses.Owed told) → TellsOfRow c b told.items

-- ** decided

-- One of these sessions told that the branch's transaction was decided to commit, after the
-- branch's vote XA_OK.
abbrev pub WasToldDecided : {L : Type 0} (moment : L → Moment) (name : List ℕ) (b : Branch) (last : Option (Server L)) (f : Branch → Standing)
    → AreServed moment name last f → Type 0
WasToldDecided moment name b _ _ NoneYet = ⊥
WasToldDecided moment name b _ _ (OneMore last from to handed o told seen now left done cut before handed_on is is_left honest may) =
    IsDecidedAfterVote b told ⊎ WasToldDecided moment name b last from before
WasToldDecided moment name b _ _ (Between last from to d how before was final) = WasToldDecided moment name b last from before

abbrev pub ToldDecidedWillCommit : {L : Type 0} → (L → Moment) → Type 0
ToldDecidedWillCommit {L} moment =
    (name : List ℕ) (last : Server L) (f : Branch → Standing) (c : Content) (served : AreServed moment name (Some last) f) (b : Branch)
    → LeavesContent moment last.session.manager c → WasToldDecided moment name b (Some last) f served → WillCommitInLog f c b

-- ** ended by a database

-- One of these sessions told that a database had ended the branch by itself, and how.
abbrev pub WasToldEndedAlone : {L : Type 0} (moment : L → Moment) (name : List ℕ) (b : Branch) (how : How) (last : Option (Server L))
    (f : Branch → Standing) → AreServed moment name last f → Type 0
WasToldEndedAlone moment name b how _ _ NoneYet = ⊥
WasToldEndedAlone moment name b how _ _ (OneMore last from to handed o told seen now left done cut before handed_on is is_left honest may) =
    TellsHeuristic b how told ⊎ WasToldEndedAlone moment name b how last from before
WasToldEndedAlone moment name b how _ _ (Between last from to d by before was final) = WasToldEndedAlone moment name b how last from before

-- So it is after all of them.
abbrev pub ToldHeuristicEndsStay : {L : Type 0} → (L → Moment) → Type 0
ToldHeuristicEndsStay {L} moment =
    (name : List ℕ) (last : Server L) (f : Branch → Standing) (c : Content) (served : AreServed moment name (Some last) f) (b : Branch) (how : How)
    → LeavesContent moment last.session.manager c → WasToldEndedAlone moment name b how (Some last) f served → IsEndedAs how (f b)
