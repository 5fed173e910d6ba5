-- The state and the fate of a branch, by where it stands (XA, chapter 6, State Tables).
use Rattle.std.specs.Prelude.{Bool, true, false}
use Rattle.xa_base.specs.declared.state.BranchState.{BranchState}
use Rattle.xa_base.specs.declared.state.BranchState.TheVariants.{S0, S1, S2, S3, S4, S5}
use Rattle.xa_base.specs.declared.state.Fate.{Fate}
use Rattle.xa_base.specs.declared.state.Standing.{Standing}
use Rattle.xa_base.specs.declared.state.Standing.TheVariants.{Unstarted, Active, Idle, Prepared, RollbackOnly, Completed, Committed, RolledBack, Lost, ReadOnly, Forgotten}

-- the state of a branch that stands so: S0 if it doesn't exist
abbrev pub branch_state_of : Standing → BranchState
branch_state_of Active = S1
branch_state_of Idle = S2
branch_state_of Prepared = S3
branch_state_of RollbackOnly = S4
branch_state_of (Completed how) = S5
branch_state_of _ = S0

-- the name of the state or, if the branch doesn't exist, of its last end
abbrev pub fate_of : Standing → Fate
fate_of Unstarted = Fate.Unstarted
fate_of Active = Fate.Active
fate_of Idle = Fate.Idle
fate_of Prepared = Fate.Prepared
fate_of RollbackOnly = Fate.RollbackOnly
fate_of (Completed how) = Fate.Heuristic how
fate_of Committed = Fate.Committed
fate_of RolledBack = Fate.RolledBack
fate_of Lost = Fate.Lost
fate_of ReadOnly = Fate.ReadOnly
fate_of (Forgotten how) = Fate.Heuristic how

-- whether a branch that stands so is prepared: S3
abbrev pub is_prepared : Standing → Bool
is_prepared Prepared = true
is_prepared _ = false

-- whether a recovery scan lists a branch that stands so: S3 and S5
abbrev pub is_in_doubt : Standing → Bool
is_in_doubt Prepared = true
is_in_doubt (Completed how) = true
is_in_doubt _ = false
