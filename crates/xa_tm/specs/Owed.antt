-- What rows of earlier incarnations owe.
use Rattle.std.specs.Prelude.{ℕ, ◌≡◌, ◌&&◌, Bool, false, List, map, Option, Some, None, nat_eq, nat_lt}
use Rattle.xa_base.specs.Branch.{branch_cmp, gtrid_eq, xid_of_branch}
use Rattle.xa_base.specs.Xid.{Xid}
use Rattle.xa_base.specs.declared.branch.Branch.{Branch}
use Rattle.xa_base.specs.declared.branch.Gtrid.{Gtrid}
use Rattle.xa_log.specs.KeySet.{KeySet, contains, items}
use Rattle.xa_tm.specs.Book.{Book, Waiting}

-- a branch of this transaction at this resource manager
abbrev pub is_own_at : Gtrid → (rm : ℕ) → Branch → Bool
is_own_at g rm b = gtrid_eq b.gtrid g && nat_eq b.rm rm

-- the row, if there is one, waits for the branch
abbrev pub waits_for : Option Waiting → Branch → Bool
waits_for None b = false
waits_for (Some set) b = contains set b

-- the branch is at the resource manager, and its transaction's row is of an earlier incarnation and
-- waits for it
abbrev pub owes : Book → (rm : ℕ) → Branch → Bool
owes k rm b = nat_eq b.rm rm && (nat_lt b.gtrid.incarnation k.incarnation && waits_for (k.row b.gtrid) b)

-- these are the identifiers of the branches at a resource manager that are owed, each once, in
-- their order
pub record AreOwed (k : Book) (rm : ℕ) (xids : List Xid) : Type 0 where
  pub set : KeySet branch_cmp
  pub listed : xids ≡ map xid_of_branch (items set)
  pub each : (b : Branch) → contains set b ≡ owes k rm b
