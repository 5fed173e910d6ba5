-- What a process leaves at the resource managers and in the log, and what the next one finds there.
use Rattle.std.specs.Prelude.{◌≡◌, ◌≤◌, ◌+◌, ℕ, if◌then◌else◌, IsSomeAnd, List}
use Rattle.xa_base.specs.Branch.{xid_of_branch}
use Rattle.xa_base.specs.HeldBranch.{HeldBranch, new_branch}
use Rattle.xa_base.specs.StateTable.{broken, state_of}
use Rattle.xa_base.specs.declared.branch.Branch.{Branch}
use Rattle.xa_log.specs.Content.{Content}
use Rattle.xa_log.specs.Contract.{Honestly}
use Rattle.xa_log.specs.declared.decision_log.DecisionLog as DecisionLog
use Rattle.xa_model.specs.Facts.{doubt, fits, incarnation, log, retries, standing, vote}
use Rattle.xa_model.specs.Facts.Distinct.{IsNewTo}
use Rattle.xa_model.specs.Promises.Processes.{gone}
use Rattle.xa_model.specs.Trace.{Trace}
use Rattle.xa_system.specs.LogInHistory.{MayHoldRows}
use Rattle.xa_system.specs.Parts.{held_at_rm}
use Rattle.xa_system.specs.SystemView.{HasNewer}
use Rattle.xa_rm.specs.Look.{Look}

-- ** what is left

-- a history leaves a branch so: once its line is broken, it is in the state that the history tells,
-- with its vote and its retries
pub record LeavesBranch (past : Trace) (b : Branch) (h : HeldBranch) : Type 0 where
  pub state : state_of (broken h.standing) ≡ state_of (standing (gone past) b)
  pub vote_is : h.vote ≡ vote past b
  pub retries_are : h.retries ≡ retries past b

-- what is held of a branch at its resource manager: nothing, if it has no identifier or is at none
-- of these
abbrev pub held_among : {R : Type 0} → (R → Look) → List R → Branch → HeldBranch
held_among look rms b = if fits b then held_at_rm look rms b.rm (xid_of_branch b) else new_branch

-- it leaves a log so: with its rows and its records, with or without the change in doubt, which is
-- new to them, in its incarnation or a later one
pub record LeavesLog (past : Trace) (c : Content) : Type 0 where
  pub rows : MayHoldRows past c
  pub is_new : IsNewTo (log past) (doubt past)
  pub least : incarnation past ≤ c.incarnation

-- it leaves the resource managers and the log so
pub record Leaves {R : Type 0} (look : R → Look) (past : Trace) (rms : List R) (c : Content) : Type 0 where
  pub branches : (b : Branch) → LeavesBranch past b (held_among look rms b)
  pub log : LeavesLog past c

-- ** why nothing can go on from there

-- the incarnation was raised, and some branch was started that no earlier incarnation left
pub record FindsNewer {R L : Type 0} (look : R → Look) (logs : DecisionLog.Ghosts L) (rms : List R) (handed : L) : Type 0 where
  pub incarnation : ℕ
  pub newer : HasNewer look incarnation rms
  pub left : L
  pub raised : Honestly (logs.moment handed) (logs.moment left) (IsSomeAnd (logs.moment handed).content (λ c. incarnation ≡ c.incarnation + 1))
