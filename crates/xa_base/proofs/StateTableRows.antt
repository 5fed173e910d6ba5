-- The branch state table as it is printed: of each kind of call a row, with the number of the
-- answer and the state after it for S0, S1, S2, S3, S4 and S5. Each row computes.
use Rattle.std.proofs.Common.{◌≡◌, ℕ, true, false, List, [], ◌∷◌, ℤ, pos, negsuc, refl}
use Rattle.xa_base.specs.Code.{code_number}
use Rattle.xa_base.specs.Standing.{branch_state_of}
use Rattle.xa_base.specs.StateTable.{Kind, Kind.Start, Kind.Join, Kind.End, Kind.Prepare, Kind.Commit, Kind.OnePhase, Kind.Rollback, Kind.Forget, state_of, answer, moved, broken, completed}
use Rattle.xa_base.specs.declared.code.How.TheVariants.{Mix, Haz}
use Rattle.xa_base.specs.declared.code.RbCode.TheVariants.{Deadlock}
use Rattle.xa_base.specs.declared.state.BranchState.{BranchState}
use Rattle.xa_base.specs.declared.state.BranchState.TheVariants.{S0, S1, S2, S3, S4, S5}
use Rattle.xa_base.specs.declared.state.Standing.{Standing}
use Rattle.xa_base.specs.declared.state.Standing.TheVariants.{Unstarted, Active, Idle, Prepared, RollbackOnly, Completed, Committed, RolledBack, Lost, ReadOnly, Forgotten}
use Rattle.xa_base.specs.declared.vote.Vote.{Vote}
use Rattle.xa_base.specs.declared.vote.Vote.TheVariants as Votes

abbrev pub Cell : Type 0
Cell = ℤ × BranchState

cell : Kind → Vote → (retries : ℕ) → Standing → Cell
cell kind v n f = let code = answer kind (state_of f) v n in (code_number code, branch_state_of (moved f kind code))

-- a row, if a branch in S5 was ended in parts: XA_HEURMIX, 5
row : Kind → Vote → (retries : ℕ) → List Cell
row kind v n =
    cell kind v n Unstarted ∷ cell kind v n Active ∷ cell kind v n Idle ∷ cell kind v n Prepared ∷ cell kind v n RollbackOnly
    ∷ cell kind v n (Completed Mix) ∷ []

xa_start : row Start Votes.Yes 0 ≡ (pos 0, S1) ∷ (negsuc 7, S1) ∷ (negsuc 7, S2) ∷ (negsuc 7, S3) ∷ (negsuc 7, S4) ∷ (negsuc 7, S5) ∷ []
unfolding row cell
xa_start = refl

xa_start-join : row Join Votes.Yes 0 ≡ (negsuc 3, S0) ∷ (negsuc 5, S1) ∷ (negsuc 5, S2) ∷ (negsuc 5, S3) ∷ (negsuc 5, S4) ∷ (negsuc 5, S5) ∷ []
unfolding row cell
xa_start-join = refl

xa_end-success : row (End false) Votes.Yes 0 ≡ (negsuc 3, S0) ∷ (pos 0, S2) ∷ (negsuc 5, S2) ∷ (negsuc 5, S3) ∷ (negsuc 5, S4) ∷ (negsuc 5, S5) ∷ []
unfolding row cell
xa_end-success = refl

xa_end-fail : row (End true) Votes.Yes 0 ≡ (negsuc 3, S0) ∷ (pos 100, S4) ∷ (negsuc 5, S2) ∷ (negsuc 5, S3) ∷ (negsuc 5, S4) ∷ (negsuc 5, S5) ∷ []
unfolding row cell
xa_end-fail = refl

xa_prepare : row Prepare Votes.Yes 0 ≡ (negsuc 3, S0) ∷ (negsuc 5, S1) ∷ (pos 0, S3) ∷ (negsuc 5, S3) ∷ (negsuc 5, S4) ∷ (negsuc 5, S5) ∷ []
unfolding row cell
xa_prepare = refl

xa_prepare-votes : cell Prepare Votes.ReadOnly 0 Idle ∷ cell Prepare (Votes.No Deadlock) 0 Idle ∷ [] ≡ (pos 3, S0) ∷ (pos 102, S0) ∷ []
unfolding cell
xa_prepare-votes = refl

xa_commit : row Commit Votes.Yes 0 ≡ (negsuc 3, S0) ∷ (negsuc 5, S1) ∷ (negsuc 5, S2) ∷ (pos 0, S0) ∷ (negsuc 5, S4) ∷ (pos 5, S5) ∷ []
unfolding row cell
xa_commit = refl

xa_commit-retries : cell Commit Votes.Yes 3 Prepared ≡ (pos 4, S3)
unfolding cell
xa_commit-retries = refl

xa_commit-one_phase : row OnePhase Votes.Yes 0 ≡ (negsuc 3, S0) ∷ (negsuc 5, S1) ∷ (pos 0, S0) ∷ (negsuc 5, S3) ∷ (negsuc 5, S4) ∷ (pos 5, S5) ∷ []
unfolding row cell
xa_commit-one_phase = refl

xa_commit-one_phase-votes : cell OnePhase Votes.ReadOnly 0 Idle ∷ cell OnePhase (Votes.No Deadlock) 0 Idle ∷ [] ≡ (pos 0, S0) ∷ (pos 102, S0) ∷ []
unfolding cell
xa_commit-one_phase-votes = refl

xa_rollback : row Rollback Votes.Yes 0 ≡ (negsuc 3, S0) ∷ (negsuc 5, S1) ∷ (pos 0, S0) ∷ (pos 0, S0) ∷ (pos 100, S0) ∷ (pos 5, S5) ∷ []
unfolding row cell
xa_rollback = refl

xa_forget : row Forget Votes.Yes 0 ≡ (negsuc 3, S0) ∷ (negsuc 5, S1) ∷ (negsuc 5, S2) ∷ (negsuc 5, S3) ∷ (negsuc 5, S4) ∷ (pos 0, S0) ∷ []
unfolding row cell
xa_forget = refl

-- ** the names of the ends

-- where a branch stands after a call on it
ending : Kind → Vote → (retries : ℕ) → Standing → Standing
ending kind v n f = moved f kind (answer kind (state_of f) v n)

committed : ending Commit Votes.Yes 0 Prepared ∷ ending OnePhase Votes.Yes 0 Idle ∷ ending OnePhase Votes.ReadOnly 0 Idle ∷ []
    ≡ Committed ∷ Committed ∷ Committed ∷ []
unfolding ending
committed = refl

rolled_back : ending Rollback Votes.Yes 0 Idle ∷ ending Rollback Votes.Yes 0 Prepared ∷ ending Rollback Votes.Yes 0 RollbackOnly
    ∷ ending Prepare (Votes.No Deadlock) 0 Idle ∷ ending OnePhase (Votes.No Deadlock) 0 Idle ∷ [] ≡ RolledBack ∷ RolledBack
    ∷ RolledBack ∷ RolledBack ∷ RolledBack ∷ []
unfolding ending
rolled_back = refl

read_only : ending Prepare Votes.ReadOnly 0 Idle ≡ ReadOnly
unfolding ending
read_only = refl

-- a forgotten branch keeps how it was completed
forgotten : ending Forget Votes.Yes 0 (Completed Haz) ≡ Forgotten Haz
unfolding ending
forgotten = refl

lost : broken Active ∷ broken Idle ∷ broken RollbackOnly ∷ broken Prepared ∷ broken (Completed Haz) ∷ [] ≡ Lost ∷ Lost ∷ Lost ∷ Prepared ∷ Completed Haz ∷ []
lost = refl

-- only a prepared branch can be completed
completions : completed Prepared Haz ∷ completed Idle Haz ∷ completed Active Haz ∷ [] ≡ Completed Haz ∷ Idle ∷ Active ∷ []
completions = refl
