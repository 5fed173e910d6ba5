-- Why no manager starts over a log that was handed in, and what is left of that.
use Rattle.std.specs.Prelude.{◌≡◌, ◌⊎◌, IsSomeAnd}
use Rattle.xa_log.specs.Content.{unchanged, with_bump}
use Rattle.xa_log.specs.Contract.{Honestly, Makes, one_more_fault}
use Rattle.xa_log.specs.declared.decision_log.DecisionLog as DecisionLog
use Rattle.xa_tm.specs.Slots.{ReadsRows}
use Rattle.xa_tm.specs.Starting.{IsPast}

module _ {L : Type 0} (logs : DecisionLog.Ghosts L) where
  -- the log that is left has failed once more
  abbrev pub HasFailed : (handed left : L) → Type 0
  HasFailed handed left = (logs.moment left).fault_count ≡ one_more_fault (logs.moment handed).fault_count

  -- it has not failed, but has a row or a record of a later incarnation than its own, and that was
  -- raised
  pub record IsRaisedInVain (handed left : L) : Type 0 where
    pub honest : (logs.moment left).is_honest → (logs.moment handed).is_honest
    pub faults : (logs.moment left).fault_count ≡ (logs.moment handed).fault_count
    pub not_past : Honestly (logs.moment handed) (logs.moment left) (IsSomeAnd (logs.moment handed).content (λ c. ¬ IsPast c))
    pub raised : Honestly (logs.moment handed) (logs.moment left) (Makes with_bump (logs.moment handed).content (logs.moment left).content)

  -- the log is to blame
  abbrev pub IsToBlame : L → Type 0
  IsToBlame handed = (left : L) × (HasFailed handed left ⊎ IsRaisedInVain handed left)

  -- only its rows were read, so that it has what it had
  pub record IsOnlyRead (handed left : L) : Type 0 where
    pub rows : ReadsRows logs handed left
    pub same : Honestly (logs.moment handed) (logs.moment left) (Makes unchanged (logs.moment handed).content (logs.moment left).content)
