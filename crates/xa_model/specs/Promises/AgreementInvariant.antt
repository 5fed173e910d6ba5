-- What holds at every moment, and carries agreement through every crash. The facts are this manager's own: they tie its log and its
-- waiting calls to the phases of TCommit, of Gray and Lamport.
use Rattle.std.specs.Prelude.{ℕ, ◌+◌, ◌≤◌, ◌≡◌, ◌⊎◌, length, true, false, Some, slice_get}
use Rattle.xa_base.specs.StateTable.{State.S0, State.S5, state_of, on}
use Rattle.xa_base.specs.declared.state.Standing.{Standing}
use Rattle.xa_base.specs.declared.state.Standing.TheVariants.{Prepared, Completed, ReadOnly}
use Rattle.xa_model.specs.Promises.Agreement.{phases}
use Rattle.xa_model.specs.Promises.Commitment.{Phase}
use Rattle.xa_model.specs.Facts.{incarnation, sequence, counts_as_committed, claimed, handed_over, started, has_row, ever, had_row, is_settled, taken, issued, standing}
use Rattle.xa_model.specs.Protocol.{AllAreSettled}
use Rattle.xa_base.specs.declared.call.Call.TheVariants as Calls
use Rattle.xa_model.specs.Trace.{Gtrid, Branch, Line, Kind, Kind.Start, Kind.Join, Call, How, Trace}

-- a call that was issued and not yet taken
abbrev pub IsWaiting : Trace → Line → Call → Type 0
IsWaiting tr l c = (i : ℕ) × (length (taken tr l) ≤ i) × (slice_get (issued tr l) i ≡ Some c)

-- ** calls that wait

-- a waiting xa_commit of a branch has a row, or the branch is settled
abbrev pub CommitHasRow : Trace → Type 0
CommitHasRow tr =
    (l : Line) (b : Branch) → started tr b ≡ true → IsWaiting tr l (Calls.Commit b false)
    → (has_row tr b.gtrid ≡ true) ⊎ (is_settled tr b ≡ true)

-- a waiting xa_rollback of a branch never had a row, or all branches of its transaction are settled
abbrev pub RollbackHasNoRow : Trace → Type 0
RollbackHasNoRow tr =
    (l : Line) (b : Branch) → started tr b ≡ true → IsWaiting tr l (Calls.Rollback b)
    → (ever tr b.gtrid ≡ false) ⊎ AllAreSettled tr b.gtrid

-- xa_start without and with TMJOIN
abbrev pub Starts : Kind → Type 0
Starts Start = Unit
Starts Join = Unit
Starts _ = ⊥

-- no waiting xa_start is of a transaction that is committed or claimed
abbrev pub NoStartAfterCommit : Trace → Type 0
NoStartAfterCommit tr =
    (l : Line) (k : Kind) (b : Branch) → Starts k → IsWaiting tr l (on k b)
    → (counts_as_committed tr b.gtrid ≡ false) × (claimed tr b.gtrid ≡ false)

-- ** branches

-- a branch of a transaction that ever had a row is neither before its vote nor undone
abbrev pub RowsWerePrepared : Trace → Type 0
RowsWerePrepared tr =
    (b : Branch) → started tr b ≡ true → ever tr b.gtrid ≡ true
    → (phases tr b ≡ Phase.Prepared) ⊎ (phases tr b ≡ Phase.Committed)

-- prepared, heuristically completed, or ended by a vote to only read
abbrev pub IsReadyToCommit : Standing → Type 0
IsReadyToCommit Prepared = Unit
IsReadyToCommit (Completed how) = Unit
IsReadyToCommit ReadOnly = Unit
IsReadyToCommit _ = ⊥

-- so is each branch of a claimed transaction
abbrev pub ClaimedIsPrepared : Trace → Type 0
ClaimedIsPrepared tr = (b : Branch) → started tr b ≡ true → claimed tr b.gtrid ≡ true → IsReadyToCommit (standing tr b)

-- a settled branch has ended, and a row leaves only when all branches of its transaction are settled
pub record SettledIsOver (tr : Trace) : Type 0 where
  pub over :
      (b : Branch) → started tr b ≡ true → is_settled tr b ≡ true
      → (state_of (standing tr b) ≡ S0) ⊎ ((how : How) × (state_of (standing tr b) ≡ S5 how))
  pub rows_leave : (g : Gtrid) → had_row tr g ≡ true → has_row tr g ≡ false → AllAreSettled tr g

-- ** transactions

-- the transaction may still be begun: later in this incarnation, or in a later one
abbrev pub MayBegin : Trace → Gtrid → Type 0
MayBegin tr g = ((g.incarnation ≡ incarnation tr) × (sequence tr + 1 ≤ g.sequence)) ⊎ (incarnation tr + 1 ≤ g.incarnation)

-- no row and no branch is of a transaction that may still be begun
pub record FreshGtrids (tr : Trace) : Type 0 where
  pub rows : (g : Gtrid) → MayBegin tr g → ever tr g ≡ false
  pub branches : (b : Branch) → MayBegin tr b.gtrid → started tr b ≡ false

-- a transaction that was handed over, to be committed in one phase, has some branch, only the one, and never a row
pub record HandedOverAlone (tr : Trace) : Type 0 where
  pub some : (g : Gtrid) → handed_over tr g ≡ true → (b : Branch) × (b.gtrid ≡ g) × (started tr b ≡ true)
  pub one :
      (b c : Branch) → handed_over tr b.gtrid ≡ true → b.gtrid ≡ c.gtrid → started tr b ≡ true → started tr c ≡ true
      → b ≡ c
  pub no_row : (g : Gtrid) → handed_over tr g ≡ true → ever tr g ≡ false
