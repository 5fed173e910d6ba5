-- What holds after every list of right events.
pub mod HeardAnswers
pub mod RowLists
pub mod WaitedCalls
pub mod WaitingCalls
pub mod AtEachMoment
pub mod Grows
pub mod OneMore
pub mod Lines
pub mod Moves
pub mod NewFacts
pub mod Now
pub mod Preservation
pub mod PreservedRows
pub mod PreservedTransactions
pub mod Records
pub mod Rows
use Rattle.std.proofs.Common.{◌≡◌, ℕ, ◌<◌, ◌≤◌, List, length, true, false, ◌⊎◌}
use Rattle.std.specs.Prelude.{Some, slice_get, IfSome}
use Rattle.xa_base.specs.declared.call.Call.TheVariants as Calls
use Rattle.xa_base.specs.Call.{xid_in}
use Rattle.xa_base.specs.StateTable.{on}
use Rattle.xa_base.specs.declared.answer.Answer.TheVariants.{Ret, Page}
use Rattle.xa_model.specs.Trace.{Gtrid, Branch, Line, Name, Name.Ours, Name.Foreign, Kind, Kind.Start, Kind.Join, Kind.End, Kind.Prepare, Kind.Commit, Kind.OnePhase, Kind.Rollback, Kind.Forget, Call, How, Answer, Outcome, Trace, line_of}
use Rattle.xa_base.specs.declared.code.Code.TheVariants as Codes
use Rattle.xa_base.specs.declared.state.Standing.{Standing}
use Rattle.xa_base.specs.declared.state.Standing.TheVariants.{Unstarted, Active, Idle, Prepared, RollbackOnly, Completed, Committed, RolledBack, Lost, ReadOnly, Forgotten}
use Rattle.xa_model.specs.Facts.{origin, up, incarnation, sequence, begun, decided_so, handed_over, claimed, live, started, was_told, says_yes, says_read_only, acknowledges, has_branch, has_gtrid, lists_row, participants_in, participants, has_row, recorded, recorded_as, had_row, doubt, Change, Change.AddRows, Change.DropRows, Change.AddRecord, Change.NoChange, taken, issued, page, standing}
use Rattle.xa_model.specs.Promises.AgreementInvariant.{Starts}
use Rattle.xa_model.specs.Protocol.{Lists, AllHaveVoted, AllAreSettled}

-- ** words

-- no transaction that is begun later has this number
abbrev pub Old : Trace → Gtrid → Type 0
Old tr g = (g.incarnation < incarnation tr) ⊎ ((g.incarnation ≡ incarnation tr) × (g.sequence ≤ sequence tr))

-- the transaction was begun, and takes no new branch and no decision any more
pub record Closed (tr : Trace) (g : Gtrid) : Type 0 where
  pub old : Old tr g
  pub not_live : live tr g ≡ false

abbrev pub IsAtRest : Standing → Type 0
IsAtRest Unstarted = ⊥
IsAtRest Active = ⊥
IsAtRest Idle = ⊥
IsAtRest RollbackOnly = ⊥
IsAtRest Prepared = ⊥
IsAtRest _ = Unit

-- no call changes it any more
abbrev pub IsEnded : Standing → Type 0
IsEnded Committed = Unit
IsEnded RolledBack = Unit
IsEnded Lost = Unit
IsEnded ReadOnly = Unit
IsEnded (Forgotten how) = Unit
IsEnded _ = ⊥

-- what the branches of a transaction with a row may be
abbrev pub IsGood : Standing → Type 0
IsGood Prepared = Unit
IsGood (Completed how) = Unit
IsGood Committed = Unit
IsGood ReadOnly = Unit
IsGood (Forgotten how) = Unit
IsGood _ = ⊥

-- its resource manager ended it alone, and so
abbrev pub IsHeuristic : How → Standing → Type 0
IsHeuristic how (Completed h) = h ≡ how
IsHeuristic how (Forgotten h) = h ≡ how
IsHeuristic how _ = ⊥

abbrev pub HasBegun : Standing → Type 0
HasBegun Unstarted = ⊥
HasBegun _ = Unit

-- a call that was issued and not yet taken
pub record Waits (tr : Trace) (l : Line) (c : Call) : Type 0 where
  pub place : ℕ
  pub not_taken : length (taken tr l) ≤ place
  pub is : slice_get (issued tr l) place ≡ Some c

pub record WaitingStart (tr : Trace) (l : Line) (b : Branch) : Type 0 where
  pub own_line : l ≡ line_of b
  pub is_started : started tr b ≡ true
  pub unstarted : standing tr b ≡ Unstarted

pub record WaitingRollback (tr : Trace) (b : Branch) : Type 0 where
  pub closed : Closed tr b.gtrid
  pub no_row : has_row tr b.gtrid ≡ false

-- what holds of a waiting call
abbrev pub CallFact : Trace → Line → Kind → Branch → Type 0
CallFact tr l Start b = WaitingStart tr l b
CallFact tr l Join b = WaitingStart tr l b
CallFact tr l (End fail) b = Unit
CallFact tr l Prepare b = Unit
CallFact tr l OnePhase b = handed_over tr b.gtrid ≡ true
CallFact tr l Commit b = had_row tr b.gtrid ≡ true
CallFact tr l Rollback b = WaitingRollback tr b
CallFact tr l Forget b = recorded tr b ≡ true

-- of an incarnation before that of the start, which may have found it
abbrev pub IsOlder : Trace → Branch → Type 0
IsOlder tr b = b.gtrid.incarnation < (origin tr).incarnation

abbrev pub IsStarted : Trace → Name → Type 0
IsStarted tr (Ours b) = (started tr b ≡ true) ⊎ IsOlder tr b
IsStarted tr (Foreign n) = Unit

-- a yes: the branch was prepared, and stays so while its transaction is live
pub record YesFact (tr : Trace) (b : Branch) : Type 0 where
  pub has_begun : HasBegun (standing tr b)
  pub good : live tr b.gtrid ≡ true → IsGood (standing tr b)

pub record NotKnownFact (tr : Trace) (b : Branch) : Type 0 where
  pub closed : Closed tr b.gtrid
  pub at_rest : started tr b ≡ true → IsAtRest (standing tr b)

-- completed on its own, in a transaction that is decided
pub record HeuristicFact (tr : Trace) (b : Branch) (how : How) : Type 0 where
  pub heuristic : IsHeuristic how (standing tr b)
  pub closed : Closed tr b.gtrid

-- what holds of an answer that was given
abbrev pub AnswerFact : Trace → Call → Answer → Type 0
AnswerFact tr (Calls.Prepare b) (Ret Codes.Success) = YesFact tr b
AnswerFact tr (Calls.Prepare b) (Ret Codes.ReadOnly) = standing tr b ≡ ReadOnly
AnswerFact tr (Calls.Commit b false) (Ret Codes.Success) = standing tr b ≡ Committed
AnswerFact tr (Calls.Commit b false) (Ret Codes.NotAnXid) = NotKnownFact tr b
AnswerFact tr c (Ret (Codes.Heuristic how)) = IfSome (xid_in c) (λ b. HeuristicFact tr b how)
AnswerFact tr (Calls.Recover n s e) (Page names) = (x : Name) → Lists names x → IsStarted tr x
AnswerFact tr c a = Unit

-- what holds of a transaction with a row, or with one in doubt
pub record RowFact (tr : Trace) (g : Gtrid) : Type 0 where
  pub closed : Closed tr g
  pub good : (b : Branch) → b.gtrid ≡ g → started tr b ≡ true → IsGood (standing tr b)
  pub not_handed : handed_over tr g ≡ false
  pub not_rolled_back : decided_so Outcome.Rollback tr g ≡ false

-- each branch of the transaction is among these, or only read
abbrev pub Covers : Trace → List Branch → Gtrid → Type 0
Covers tr bs g = (b : Branch) → b.gtrid ≡ g → started tr b ≡ true → (has_branch bs b ≡ true) ⊎ (was_told tr (says_read_only b) ≡ true)

abbrev pub DoubtFact : Trace → Change → Type 0
DoubtFact tr (AddRows xs) = (g : Gtrid) → lists_row xs g ≡ true → RowFact tr g × Covers tr (participants_in xs g) g
DoubtFact tr (DropRows gs) = (g : Gtrid) → has_gtrid gs g ≡ true → Closed tr g × AllAreSettled tr g
DoubtFact tr (AddRecord x) = HeuristicFact tr x.branch x.how
DoubtFact tr NoChange = Unit

-- no xa_start of the branch is accepted any more
abbrev pub IsFixed : Trace → Branch → Type 0
IsFixed tr b = (started tr b ≡ true) ⊎ Closed tr b.gtrid

-- ** the invariant

pub record Inv (tr : Trace) : Type 0 where
  pub since_start : (origin tr).incarnation ≤ incarnation tr
  pub begun_since : (g : Gtrid) → begun tr g ≡ true → (origin tr).incarnation ≤ g.incarnation
  pub started_since : (b : Branch) → started tr b ≡ true → (origin tr).incarnation ≤ b.gtrid.incarnation
  pub begun_old : (g : Gtrid) → begun tr g ≡ true → Old tr g
  pub started_old : (b : Branch) → started tr b ≡ true → Old tr b.gtrid
  pub decided_old : (o : Outcome) (g : Gtrid) → decided_so o tr g ≡ true → Old tr g
  pub handed_old : (g : Gtrid) → handed_over tr g ≡ true → Old tr g
  pub handed_one : (b c : Branch) → handed_over tr b.gtrid ≡ true → c.gtrid ≡ b.gtrid → started tr b ≡ true → started tr c ≡ true → b ≡ c
  pub unstarted : (b : Branch) → started tr b ≡ false → (standing tr b ≡ Unstarted) ⊎ IsOlder tr b
  pub committed : (b : Branch) → standing tr b ≡ Committed
      → ((had_row tr b.gtrid ≡ true) ⊎ (handed_over tr b.gtrid ≡ true)) ⊎ IsOlder tr b
  pub rows : (g : Gtrid) → had_row tr g ≡ true → RowFact tr g
  pub row_rowed : (g : Gtrid) → has_row tr g ≡ true → had_row tr g ≡ true
  pub row_left : (g : Gtrid) → had_row tr g ≡ true → has_row tr g ≡ false → AllAreSettled tr g
  pub covered : (g : Gtrid) → has_row tr g ≡ true → Covers tr (participants tr g) g
  pub doubt_down : up tr ≡ true → doubt tr ≡ NoChange
  pub in_doubt : DoubtFact tr (doubt tr)
  pub waiting_up : (l : Line) (c : Call) → Waits tr l c → up tr ≡ true
  pub waiting : (l : Line) (k : Kind) (b : Branch) → Waits tr l (on k b) → CallFact tr l k b
  pub start_once : (l : Line) (b : Branch) (x y : Kind) (j k : ℕ) → Starts x → Starts y
      → slice_get (issued tr l) j ≡ Some (on x b) → slice_get (issued tr l) k ≡ Some (on y b) → j ≡ k
  pub start_issued : (l : Line) (b : Branch) (x : Kind) (j : ℕ) → Starts x → slice_get (issued tr l) j ≡ Some (on x b) → started tr b ≡ true
  pub answered : (l : Line) (k : ℕ) (c : Call) (a : Answer) → slice_get (taken tr l) k ≡ Some (c, a) → AnswerFact tr c a
  pub voted_yes : (b : Branch) → was_told tr (says_yes b) ≡ true → YesFact tr b
  pub voted_read_only : (b : Branch) → was_told tr (says_read_only b) ≡ true → standing tr b ≡ ReadOnly
  pub acknowledged : (b : Branch) → was_told tr (acknowledges b) ≡ true → started tr b ≡ true → IsAtRest (standing tr b)
  pub acknowledged_fixed : (b : Branch) → was_told tr (acknowledges b) ≡ true → IsFixed tr b
  pub recorded_closed : (b : Branch) → recorded tr b ≡ true → Closed tr b.gtrid
  pub heuristic : (b : Branch) (how : How) → recorded_as tr b ≡ Some how → started tr b ≡ true → IsHeuristic how (standing tr b)
  pub forgotten : (b : Branch) (how : How) → standing tr b ≡ Forgotten how → (recorded_as tr b ≡ Some how) ⊎ IsOlder tr b
  pub paged : (r : ℕ) (x : Name) → Lists (page tr r) x → IsStarted tr x
  pub claimed_live : (g : Gtrid) → claimed tr g ≡ true → live tr g ≡ true
  pub claimed_voted : (g : Gtrid) → claimed tr g ≡ true → AllHaveVoted tr g
  pub all_voted : (g : Gtrid) → decided_so Outcome.Commit tr g ≡ true → AllHaveVoted tr g
