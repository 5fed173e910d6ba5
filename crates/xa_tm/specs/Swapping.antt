-- What a fault tells of a log that couldn't be put in.
use Rattle.std.specs.Prelude.{◌≡◌, ◌≢◌, ◌⊎◌, Some}
use Rattle.xa_log.specs.Content.{Content}
use Rattle.xa_log.specs.Contract.{Honestly}
use Rattle.xa_log.specs.declared.decision_log.DecisionLog as DecisionLog
use Rattle.xa_log.specs.declared.log_fault.LogFault.{LogFault}
use Rattle.xa_tm.specs.Slots.{FailsToRead, LooksAt, ReadsRows}
use Rattle.xa_tm.specs.declared.swap_fault.SwapFault.{SwapFault}

-- A log that was handed in comes back with this fault, if one that is put in must hold such a
-- content.
pub record GivesBack {L : Type 0} (logs : DecisionLog.Ghosts L) (holds : Content → Type 0) (handed : L) (fault : SwapFault) (back : L) : Type 0 where
  pub looks : LooksAt (logs.moment handed) (logs.moment back)
  -- memory was refused after its rows were read, or in reading them
  pub memory : fault ≡ SwapFault.Memory → ReadsRows logs handed back ⊎ FailsToRead logs handed back LogFault.Memory
  -- it failed for another cause, and has counted one fault more
  pub log : fault ≡ SwapFault.Log → (cause : LogFault) × (cause ≢ LogFault.Memory) × FailsToRead logs handed back cause
  -- its rows were read, and no fault counted
  pub read : fault ≡ SwapFault.OtherRows → ReadsRows logs handed back
  -- none of its contents is such
  pub other : fault ≡ SwapFault.OtherRows
      → Honestly (logs.moment handed) (logs.moment back) ((c : Content) → (logs.moment handed).content ≡ Some c → holds c → ⊥)
