-- What is told of the branches at the end.
use Rattle.std.specs.Prelude.{◌≡◌, true}
use Rattle.xa_base.specs.Branch.{xid_of_branch}
use Rattle.xa_model.specs.Facts.{fate, started}
use Rattle.xa_model.specs.Trace.{Trace}
use Rattle.xa_base.specs.Xid.{Xid}
use Rattle.xa_base.specs.declared.branch.Branch.{Branch}
use Rattle.xa_base.specs.declared.state.Fate.{Fate}

-- the identifier is that of a branch whose xa_start was accepted, and this is its fate
pub record IsReported (tr : Trace) (x : Xid) (f : Fate) : Type 0 where
  pub branch : Branch
  pub is_started : started tr branch ≡ true
  pub names : x ≡ xid_of_branch branch
  pub ends : f ≡ fate tr branch
