-- The commitment of one transaction over many branches, told without a manager: TCommit of Gray and Lamport, "Consensus on
-- Transaction Commit". Each branch is in one of four phases.
use Rattle.std.specs.Prelude.{◌≡◌, ◌⊎◌, if◌then◌else◌}
use Rattle.xa_base.specs.Branch.{branch_eq}
use Rattle.xa_base.specs.declared.state.Standing.{Standing}
use Rattle.xa_model.specs.Trace.{Branch}

-- where a branch is on its way
pub data Phase : Type 0 where
  Working : Phase
  Prepared : Phase
  Committed : Phase
  Aborted : Phase

-- the phase to which one branch may go: it prepares at any time; it commits once all are prepared or have committed; it aborts
-- while none has committed
pub data MayGo (Member : Branch → Type 0) (phases : Branch → Phase) (b : Branch) : Phase → Type 0 where
  Prepares : phases b ≡ Phase.Working → MayGo Member phases b Phase.Prepared
  Commits :
      phases b ≡ Phase.Prepared
      → ((c : Branch) → Member c → (phases c ≡ Phase.Prepared) ⊎ (phases c ≡ Phase.Committed))
      → MayGo Member phases b Phase.Committed
  Aborts :
      (phases b ≡ Phase.Working) ⊎ (phases b ≡ Phase.Prepared)
      → ((c : Branch) → Member c → phases c ≡ Phase.Committed → ⊥)
      → MayGo Member phases b Phase.Aborted

-- the same phases but for one branch
abbrev pub with_phase : (Branch → Phase) → Branch → Phase → Branch → Phase
with_phase phases b x c = if branch_eq b c then x else phases c

-- some steps, of one branch each, lead from these phases to those
pub data Leads (Member : Branch → Type 0) (after : Branch → Phase) : (Branch → Phase) → Type 0 where
  There : (phases : Branch → Phase) → ((c : Branch) → Member c → phases c ≡ after c) → Leads Member after phases
  Step :
      (phases : Branch → Phase) (b : Branch) (x : Phase) → Member b → MayGo Member phases b x
      → Leads Member after (with_phase phases b x) → Leads Member after phases

-- the phase of a branch, by where it stands: one that only read is as good as prepared, and one that its resource manager ended
-- alone stays prepared
abbrev pub phase_of : Standing → Phase
phase_of Standing.Prepared = Phase.Prepared
phase_of (Standing.Completed how) = Phase.Prepared
phase_of Standing.ReadOnly = Phase.Prepared
phase_of (Standing.Forgotten how) = Phase.Prepared
phase_of Standing.Committed = Phase.Committed
phase_of Standing.RolledBack = Phase.Aborted
phase_of Standing.Lost = Phase.Aborted
phase_of _ = Phase.Working
