-- When a happening may come after a history: the protocol, without the refusals and their order. A reply that `Allowed` allows is
-- right in this sense.
use Rattle.std.specs.Prelude.{ℕ, ◌||◌, ◌+◌, ◌<◌, ◌≡◌, ◌⊎◌, List, length, true, false, Option, Some, None, IfSome, Contains, slice_get}
use Rattle.xa_base.specs.declared.call.Call.TheVariants as Calls
use Rattle.xa_base.specs.declared.answer.Answer.TheVariants.{Page, Ret}
use Rattle.xa_model.specs.Trace.{Gtrid, Branch, Code, Line, Name, Name.Ours, Kind, Kind.Start, Kind.Join, Kind.End, Kind.Prepare, Kind.Commit, Kind.OnePhase, Kind.Rollback, Kind.Forget, Call, Answer, Outcome, Fault, Fault.InDecide, Fault.InDone, Fault.InHear, Fault.InResolve, Fault.InRestart, Happening, Happening.Begun, Happening.Issued, Happening.Resolved, Happening.ResolvedOpen, Happening.Claimed, Happening.Took, Happening.Heard, Happening.CompletedAlone, Happening.Decided, Happening.Done, Happening.Crashed, Happening.Failed, Happening.Restarted, Origin, Trace, Trace.From, Trace.Then, line}
use Rattle.xa_base.specs.declared.code.Code.TheVariants as Codes
use Rattle.xa_base.specs.StateTable.{state_of, asks_of, answer}
use Rattle.xa_base.specs.declared.state.Standing.TheVariants.{Prepared, Unstarted}
use Rattle.xa_model.specs.Facts.{up, incarnation, sequence, begun, decided_so, handed_over, claimed, live, started, was_told, says_yes, says_read_only, says_yes_in, outlived, participants_settled, lists_row, has_record, heuristic_rows, held_of, log, has_row, recorded, is_settled, next_answer, next_call, standing, vote, retries, is_closed}
use Rattle.xa_base.specs.Branch.{branch_of_xid}
use Rattle.xa_base.specs.Xid.{Xid}
use Rattle.xa_model.specs.Facts.Distinct.{EachOnce}
use Rattle.xa_model.specs.Facts.InDoubt.{is_in_doubt_at, scan_answer}

-- the branch answered its xa_prepare with a vote for commit, and it was heard
abbrev pub HasVoted : Trace → Branch → Type 0
HasVoted tr b = (was_told tr (says_yes b) ≡ true) ⊎ (was_told tr (says_read_only b) ≡ true)

-- so has each branch of the transaction
abbrev pub AllHaveVoted : Trace → Gtrid → Type 0
AllHaveVoted tr g = (b : Branch) → b.gtrid ≡ g → started tr b ≡ true → HasVoted tr b

-- each branch of the transaction is settled
abbrev pub AllAreSettled : Trace → Gtrid → Type 0
AllAreSettled tr g = (b : Branch) → b.gtrid ≡ g → started tr b ≡ true → is_settled tr b ≡ true

-- its transaction has this branch and no other
abbrev pub IsOnlyBranch : Trace → Branch → Type 0
IsOnlyBranch tr b = (started tr b ≡ true) × ((c : Branch) → c.gtrid ≡ b.gtrid → started tr c ≡ true → c ≡ b)

-- live and not claimed
pub record IsOpen (tr : Trace) (g : Gtrid) : Type 0 where
  pub is_live : live tr g ≡ true
  pub unclaimed : claimed tr g ≡ false

-- what a call on a branch asks of the history, beside its transaction being begun
abbrev pub MayBeCalled : Trace → Kind → Branch → Type 0
MayBeCalled tr Start b = (started tr b ≡ false) × IsOpen tr b.gtrid
MayBeCalled tr Join b = (started tr b ≡ false) × IsOpen tr b.gtrid
MayBeCalled tr (End fail) b = Unit
MayBeCalled tr Prepare b = IsOpen tr b.gtrid
MayBeCalled tr OnePhase b = IsOpen tr b.gtrid × IsOnlyBranch tr b
MayBeCalled tr Commit b = has_row tr b.gtrid ≡ true
MayBeCalled tr Rollback b = (decided_so Outcome.Rollback tr b.gtrid ≡ true) ⊎ (handed_over tr b.gtrid ≡ true)
MayBeCalled tr Forget b = recorded tr b ≡ true

-- all calls but those that end a branch in two phases come from the thread of the branch
abbrev pub IsOnOwnThread : Kind → Line → Branch → Type 0
IsOnOwnThread Commit l b = Unit
IsOnOwnThread Rollback l b = Unit
IsOnOwnThread Forget l b = Unit
IsOnOwnThread _ l b = l.thread ≡ b.thread

-- begun in this incarnation; for xa_commit a row of an earlier one is enough
abbrev pub IsKnown : Trace → Kind → Gtrid → Type 0
IsKnown tr Commit g = (begun tr g || outlived tr g) ≡ true
IsKnown tr _ g = begun tr g ≡ true

-- a call on a branch may be issued
pub record RightCall (tr : Trace) (l : Line) (k : Kind) (b : Branch) : Type 0 where
  pub known : IsKnown tr k b.gtrid
  pub own_rm : l.rm ≡ b.rm
  pub own_thread : IsOnOwnThread k l b
  pub may_be : MayBeCalled tr k b

-- a call may be issued
abbrev pub RightIssue : Trace → Line → Call → Type 0
RightIssue tr l c = IfSome (asks_of c) (λ p. RightCall tr l p.0 p.1)

-- a page lists the name
abbrev pub Lists : List Name → Name → Type 0
Lists names x = (i : ℕ) × (slice_get names i ≡ Some x)

-- the code to what is asked of a branch, and to a call on none
abbrev pub call_code : Trace → Option (Kind × Branch) → Code
call_code tr (Some (k, b)) = answer k (state_of (standing tr b)) (vote tr b) (retries tr b)
call_code tr None = Codes.Success

-- the answer of a resource manager
abbrev pub RightAnswer : Trace → Line → Call → Answer → Type 0
RightAnswer tr l (Calls.Recover n s e) a = a ≡ scan_answer tr l.rm n s
RightAnswer tr l c a = a ≡ Ret (call_code tr (asks_of c))

-- a page lists no branch of this manager but those that are in doubt there
abbrev pub IsSoundPage : Trace → (rm : ℕ) → Answer → Type 0
IsSoundPage tr r (Page names) = (b : Branch) → Lists names (Ours b) → is_in_doubt_at tr r b ≡ true
IsSoundPage tr r (Ret code) = Unit

-- all that agreement needs of an answer: it is that of the branch state table, or a sound page
abbrev pub SoundAnswer : Trace → Line → Call → Answer → Type 0
SoundAnswer tr l (Calls.Recover n s e) a = IsSoundPage tr l.rm a
SoundAnswer tr l c a = a ≡ Ret (call_code tr (asks_of c))

-- the transaction may be claimed
pub record RightClaim (tr : Trace) (g : Gtrid) : Type 0 where
  pub is_up : up tr ≡ true
  pub is_live : live tr g ≡ true
  pub votes : AllHaveVoted tr g

-- the transaction may be decided so: a commit asks for all votes, which a claim has looked at already
pub record RightDecision (tr : Trace) (g : Gtrid) (o : Outcome) : Type 0 where
  pub is_up : up tr ≡ true
  pub is_live : live tr g ≡ true
  pub votes : o ≡ Outcome.Commit → AllHaveVoted tr g ⊎ (claimed tr g ≡ true)

-- the transaction may be decided to commit, and a yes of it was heard: its row may be written
abbrev pub RightRow : Trace → Gtrid → Type 0
RightRow tr g = RightDecision tr g Outcome.Commit × (was_told tr (says_yes_in g) ≡ true)

-- a row of this incarnation waits for all branches of its transaction, one that has outlived its own for its participants
abbrev pub IsRowSettled : Trace → Gtrid → Type 0
IsRowSettled tr g = ((begun tr g ≡ true) × AllAreSettled tr g) ⊎ ((outlived tr g ≡ true) × (participants_settled tr g ≡ true))

-- the row of the transaction may leave the log
pub record RightDone (tr : Trace) (g : Gtrid) : Type 0 where
  pub is_up : up tr ≡ true
  pub has : has_row tr g ≡ true
  pub is_settled : IsRowSettled tr g

-- the log may have failed there
abbrev pub RightFault : Trace → Fault → Type 0
RightFault tr (InDecide gs) = EachOnce (RightRow tr) gs
RightFault tr (InDone gs) = EachOnce (RightDone tr) gs
RightFault tr (InHear l) = up tr ≡ true
RightFault tr InResolve = up tr ≡ true
RightFault tr InRestart = up tr ≡ false

-- it may happen after this history
abbrev pub Right : Trace → Happening → Type 0
Right tr (Begun g) = (up tr ≡ true) × (g.incarnation ≡ incarnation tr) × (g.sequence ≡ sequence tr + 1)
Right tr (Issued l c) = (up tr ≡ true) × RightIssue tr l c × (is_closed tr l ≡ false)
Right tr (Resolved r) = (up tr ≡ true) × (is_closed tr (line 0 r) ≡ false)
Right tr (ResolvedOpen r) = (up tr ≡ true) × (is_closed tr (line 0 r) ≡ false)
Right tr (Claimed g) = RightClaim tr g
Right tr (Took l c a) = (next_call tr l ≡ Some c) × SoundAnswer tr l c a
Right tr (Heard l c a) = (up tr ≡ true) × (next_answer tr l ≡ Some (c, a))
Right tr (CompletedAlone b how) = standing tr b ≡ Prepared
Right tr (Decided g o) = RightDecision tr g o
Right tr (Done g) = RightDone tr g
Right tr (Crashed part) = Unit
Right tr (Failed f) = RightFault tr f
Right tr (Restarted i d h) =
    (up tr ≡ false) × (incarnation tr < i)
    × (d ≡ length (log (Then tr (Restarted i d h))))
    × (h ≡ length (heuristic_rows (Then tr (Restarted i d h))))
Right tr _ = Unit

-- a start is right where no row and no record of it is of a transaction that may still be begun, no branch of this manager was
-- ever started, and all that is in doubt is another manager's
pub record RightOrigin (o : Origin) : Type 0 where
  pub rows_old : (g : Gtrid) → lists_row o.rows g ≡ true → g.incarnation < o.incarnation
  pub record_old : (b : Branch) → has_record o.heuristic_rows b ≡ true → b.gtrid.incarnation < o.incarnation
  pub clear : (b : Branch) → (held_of o b).standing ≡ Unstarted
  pub foreign : (r : ℕ) (x : Xid) → Contains (o.in_doubt r) x → branch_of_xid x ≡ None

-- a process may begin there, over what others left: no row, no record and no branch is of a transaction that may still be begun
pub record OldOrigin (o : Origin) : Type 0 where
  pub rows_old : (g : Gtrid) → lists_row o.rows g ≡ true → g.incarnation < o.incarnation
  pub record_old : (b : Branch) → has_record o.heuristic_rows b ≡ true → b.gtrid.incarnation < o.incarnation
  pub held_old : (b : Branch) → ((held_of o b).standing ≡ Unstarted) ⊎ (b.gtrid.incarnation < o.incarnation)

-- what a process sees: each happening is right after those before it, whatever branches of older incarnations it found
abbrev pub IsRun : Trace → Type 0
IsRun (From o) = OldOrigin o
IsRun (Then tr e) = IsRun tr × Right tr e

-- each happening is right after the history before it
abbrev pub AllRight : Trace → Type 0
AllRight (From o) = RightOrigin o
AllRight (Then tr e) = AllRight tr × Right tr e
