-- Calls of any kind on a branch, and what a broken line leaves in doubt.
use Rattle.std.proofs.Common.{◌≡◌, Some, false, refl}
use Rattle.xa_base.specs.Opening.{closes}
use Rattle.xa_base.specs.Standing.{is_in_doubt}
use Rattle.xa_base.specs.StateTable.{Kind, Kind.Start, Kind.Join, Kind.End, Kind.Prepare, Kind.Commit, Kind.OnePhase, Kind.Rollback, Kind.Forget, asks_of, broken, on}
use Rattle.xa_base.specs.declared.branch.Branch.{Branch}
use Rattle.xa_base.specs.declared.state.Standing.{Standing}
use Rattle.xa_base.specs.declared.state.Standing.TheVariants.{Unstarted, Active, Idle, Prepared, RollbackOnly, Completed, Committed, RolledBack, Lost, ReadOnly, Forgotten}

pub asks_on : (k : Kind) (b : Branch) → asks_of (on k b) ≡ Some (k, b)
asks_on Start b = refl
asks_on Join b = refl
asks_on (End fail) b = refl
asks_on Prepare b = refl
asks_on Commit b = refl
asks_on OnePhase b = refl
asks_on Rollback b = refl
asks_on Forget b = refl

-- no call on a branch closes a line
pub closes_on : (k : Kind) (b : Branch) → closes (on k b) ≡ false
closes_on Start b = refl
closes_on Join b = refl
closes_on (End fail) b = refl
closes_on Prepare b = refl
closes_on Commit b = refl
closes_on OnePhase b = refl
closes_on Rollback b = refl
closes_on Forget b = refl

-- what is in doubt stays so when its line breaks, and nothing else comes to be
pub broken_in_doubt : (s : Standing) → is_in_doubt (broken s) ≡ is_in_doubt s
broken_in_doubt Unstarted = refl
broken_in_doubt Active = refl
broken_in_doubt Idle = refl
broken_in_doubt Prepared = refl
broken_in_doubt RollbackOnly = refl
broken_in_doubt (Completed how) = refl
broken_in_doubt Committed = refl
broken_in_doubt RolledBack = refl
broken_in_doubt Lost = refl
broken_in_doubt ReadOnly = refl
broken_in_doubt (Forgotten how) = refl

-- a line that broke may break again
pub broken_twice : (s : Standing) → broken (broken s) ≡ broken s
broken_twice Unstarted = refl
broken_twice Active = refl
broken_twice Idle = refl
broken_twice Prepared = refl
broken_twice RollbackOnly = refl
broken_twice (Completed how) = refl
broken_twice Committed = refl
broken_twice RolledBack = refl
broken_twice Lost = refl
broken_twice ReadOnly = refl
broken_twice (Forgotten how) = refl
