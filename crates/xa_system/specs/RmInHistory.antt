-- What a resource manager holds, as the history knows it.
use Rattle.std.specs.Prelude.{◌≡◌, ◌≤◌, ◌⊎◌, ℕ, Contains, None}
use Rattle.std.specs.Option.{option_map}
use Rattle.xa_base.specs.Branch.{IsBranch, branch_of_xid, xid_of_branch}
use Rattle.xa_model.specs.Facts as facts
use Rattle.xa_base.specs.HeldBranch.{HeldBranch}
use Rattle.xa_model.specs.Facts.{held_of}
use Rattle.xa_model.specs.Facts.InDoubt.{scan, xid_of_name}
use Rattle.xa_base.specs.Recover.{IsInDoubtList}
use Rattle.xa_base.specs.Scan.{Scan, Scan.NotOpen, Scan.Behind}
use Rattle.xa_base.specs.Standing.{is_in_doubt}
use Rattle.xa_base.specs.StateTable.{broken}
use Rattle.xa_base.specs.declared.state.Standing.TheVariants.{Unstarted}
use Rattle.xa_model.specs.Trace.{Origin, Trace}
use Rattle.xa_base.specs.declared.branch.Branch.{Branch}
use Rattle.xa_log.specs.Content.{last_number}
use Rattle.xa_base.specs.Xid.{Xid}
use Rattle.xa_rm.specs.Look.{Look}

-- ** branches

-- what is held of a branch is where it stands, its vote and its retries. If a break of its line
-- would lose it, its own thread started it
pub record IsHeldAs (tr : Trace) (b : Branch) (h : HeldBranch) : Type 0 where
  pub standing : h.standing ≡ facts.standing tr b
  pub vote : h.vote ≡ facts.vote tr b
  pub retries : h.retries ≡ facts.retries tr b
  pub starter : (broken h.standing ≡ h.standing) ⊎ (h.starter ≡ b.thread)

-- the identifier names no branch of this manager at this resource manager
abbrev pub IsOther : (rm : ℕ) → Xid → Type 0
IsOther r x = (b : Branch) → IsBranch b → b.rm ≡ r → x ≡ xid_of_branch b → ⊥

-- the branches of a resource manager are where the history leaves them, and all others as much in
-- doubt as they were
pub record BranchesStand (tr : Trace) (r : ℕ) (held : Xid → HeldBranch) : Type 0 where
  pub own : (b : Branch) → IsBranch b → b.rm ≡ r → IsHeldAs tr b (held (xid_of_branch b))
  pub others : (x : Xid) → IsOther r x → is_in_doubt (held x).standing
      ≡ is_in_doubt ((facts.origin tr).held r x).standing

-- ** the scan

-- a scan over identifiers, where one over names stands so
abbrev pub scan_by : {X Y : Type 0} → (X → Y) → Scan X → Scan Y
scan_by f NotOpen = NotOpen
scan_by f (Behind last) = Behind (option_map f last)

-- ** the start

-- the identifier is that of a branch of this manager at this resource manager
abbrev pub IsOwnAt : (rm : ℕ) → Xid → Type 0
IsOwnAt r x = (b : Branch) × IsBranch b × (b.rm ≡ r) × (x ≡ xid_of_branch b)

-- No branch that the start found is at work, and a log can hold the numbers of each. What is in
-- doubt at a resource manager is listed, and a branch of this manager that is listed is one of this
-- resource manager.
pub record BeginsOver (o : Origin) : Type 0 where
  pub still : (b : Branch) → broken (held_of o b).standing ≡ (held_of o b).standing
  pub numbers : (b : Branch) → ((held_of o b).standing ≡ Unstarted) ⊎ (b.gtrid.sequence ≤ last_number)
  pub listed : (r : ℕ) → IsInDoubtList (o.held r) (o.in_doubt r)
  pub home : (r : ℕ) (x : Xid) → Contains (o.in_doubt r) x → IsOwnAt r x ⊎ (branch_of_xid x ≡ None)

-- ** the whole

-- what a contract sees of a resource manager is what the history says: its branches, and the first
-- thread's scan
pub record RmStands {R : Type 0} (look : R → Look) (tr : Trace) (r : ℕ) (rm : R) : Type 0 where
  pub branches : BranchesStand tr r (look rm).held
  pub scan : (look rm).scan 0 ≡ scan_by xid_of_name (scan tr r)
