-- What a contract sees of a resource manager at one moment.
use Rattle.std.specs.Prelude.{ℕ, List}
use Rattle.xa_base.specs.HeldBranch.{HeldBranch}
use Rattle.xa_base.specs.Scan.{Scan}
use Rattle.xa_base.specs.Xid.{Xid}

-- the branch of each identifier, where each thread's recovery scan stands, and the identifiers in
-- doubt, in order
pub record Look : Type 0 where
  pub held : Xid → HeldBranch
  pub scan : ℕ → Scan Xid
  pub in_doubt : List Xid
