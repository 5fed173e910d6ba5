-- A happening that is nothing to a resource manager.
use Rattle.std.proofs.Common.{◌≡◌, ℕ, sym, ap, ◌∙◌, subst}
use Rattle.xa_model.specs.Facts as facts
use Rattle.xa_base.specs.HeldBranch.{HeldBranch}
use Rattle.xa_model.specs.Facts.InDoubt.{scan, xid_of_name}
use Rattle.xa_model.specs.Trace.{Happening, Trace, Trace.Then}
use Rattle.xa_base.specs.Xid.{Xid}
use Rattle.xa_base.specs.declared.branch.Branch.{Branch}
use Rattle.xa_system.specs.RmInHistory.{BranchesStand, RmStands, scan_by}
use Rattle.xa_rm.specs.Look.{Look}

-- its branches stand as they stood
pub record LeavesBranches (tr : Trace) (e : Happening) (r : ℕ) : Type 0 where
  pub standing : (b : Branch) → b.rm ≡ r → facts.standing (Then tr e) b ≡ facts.standing tr b
  pub vote : (b : Branch) → b.rm ≡ r → facts.vote (Then tr e) b ≡ facts.vote tr b
  pub retries : (b : Branch) → b.rm ≡ r → facts.retries (Then tr e) b ≡ facts.retries tr b

-- and its scan
pub record IsQuiet (tr : Trace) (e : Happening) (r : ℕ) : Type 0 where
  pub branches : LeavesBranches tr e r
  pub scan_stays : scan (Then tr e) r ≡ scan tr r

pub branches_stay : (tr : Trace) (e : Happening) (r : ℕ) (held : Xid → HeldBranch) → LeavesBranches tr e r
    → BranchesStand tr r held → BranchesStand (Then tr e) r held
branches_stay tr e r held quiet stand = record {
  own = λ b h at. record {
    standing = (stand.own b h at).standing ∙ sym (quiet.standing b at);
    vote = (stand.own b h at).vote ∙ sym (quiet.vote b at);
    retries = (stand.own b h at).retries ∙ sym (quiet.retries b at);
    starter = (stand.own b h at).starter;
  };
  others = stand.others;
}

-- the same function of identifiers
pub same_held : (tr : Trace) (r : ℕ) (held now : Xid → HeldBranch) → ((x : Xid) → now x ≡ held x) → BranchesStand tr r held → BranchesStand tr r now
same_held tr r held now same stand = subst (BranchesStand tr r) (sym (λ i x. same x i)) stand

pub rm_stays : {R : Type 0} (look : R → Look) (tr : Trace) (e : Happening) (r : ℕ) (rm : R) → IsQuiet tr e r
    → RmStands look tr r rm → RmStands look (Then tr e) r rm
rm_stays look tr e r rm quiet stand = record {
  branches = branches_stay tr e r (look rm).held quiet.branches stand.branches;
  scan = stand.scan ∙ ap (scan_by xid_of_name) (sym quiet.scan_stays);
}
