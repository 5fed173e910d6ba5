-- What a call that looks at a log makes of it.
use Rattle.std.specs.Prelude.{◌≡◌, ◌⊎◌, Err, OnOk, Result}
use Rattle.xa_files.specs.declared.fault.RunFault.{RunFault}
use Rattle.xa_files.specs.declared.fault.RunFault.TheVariants.{Log, Memory}
use Rattle.xa_listing.specs.Faults.{CountsFault, TellsFault}
use Rattle.xa_log.specs.Content.{unchanged}
use Rattle.xa_log.specs.Contract.{Honestly, IsShutOrSame, LeavesNoMore}
use Rattle.xa_log.specs.declared.decision_log.DecisionLog as DecisionLog
use Rattle.xa_log.specs.declared.decision_log.LogCall.TheVariants.{Rows}

-- A call that reads a log's rows once and changes nothing, by the log before and after it.
pub record OnlyLooks {L : Type 0} (logs : DecisionLog.Ghosts L) (old new : L) (result : Result (Unit {0}) RunFault) : Type 0 where
  -- after success the log holds what it held
  pub log : Honestly (logs.moment old) (logs.moment new) (OnOk result ((logs.moment new).content ≡ (logs.moment old).content))
  -- else a failure of its own may have shut it
  pub kept : Honestly (logs.moment old) (logs.moment new) (IsShutOrSame (logs.moment old).content (logs.moment new).content)
  pub crash : Honestly (logs.moment old) (logs.moment new) (LeavesNoMore (logs.moment old).may_leave (logs.moment new).may_leave)
  pub order : (logs.moment old).is_in_order → (logs.moment new).is_in_order
  pub honest : (logs.moment new).is_honest → (logs.moment old).is_honest
  pub faults : CountsFault result (logs.moment old).fault_count (logs.moment new).fault_count
  -- a fault of the log is told as what it is
  pub told : result ≡ Err Log → TellsFault Log (logs.says Rows unchanged old new)
  -- memory was refused to the reader, or to the log
  pub memory : result ≡ Err Memory → ((logs.moment new).fault_count ≡ (logs.moment old).fault_count)
      ⊎ TellsFault Memory (logs.says Rows unchanged old new)
