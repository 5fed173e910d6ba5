-- A log whose rows were read.
use Rattle.std.specs.Prelude.{◌≡◌, IsSomeAnd, None, Ok, Result}
use Rattle.std.specs.FinMap.{entries, keys}
use Rattle.xa_log.specs.Content.{all_listed, unchanged}
use Rattle.xa_log.specs.Contract.{Honestly, Reads}
use Rattle.xa_log.specs.declared.decision_log.DecisionLog as DecisionLog
use Rattle.xa_log.specs.declared.decision_log.LogCall.TheVariants.{Rows}
use Rattle.xa_log.specs.declared.log_fault.LogFault.{LogFault}
use Rattle.xa_log.specs.declared.log_rows.LogRows.{LogRows}
use Rattle.xa_tm.specs.declared.read_log.ReadLog.{ReadLog}

-- the log was handed in, its rows were read, and it gave these
pub record WasRead {L : Type 0} (logs : DecisionLog.Ghosts L) (read : ReadLog L) : Type 0 where
  pub decisions : Honestly (logs.moment read.handed.value) (logs.moment read.log)
      (IsSomeAnd (logs.moment read.handed.value).content (λ c. read.rows.decisions.items ≡ keys c.decisions))
  pub participants : Honestly (logs.moment read.handed.value) (logs.moment read.log)
      (IsSomeAnd (logs.moment read.handed.value).content (λ c. read.rows.participants.items ≡ all_listed (entries c.decisions)))
  pub heuristics : Honestly (logs.moment read.handed.value) (logs.moment read.log)
      (IsSomeAnd (logs.moment read.handed.value).content (λ c. read.rows.heuristics.items ≡ entries c.heuristics))
  pub reads : Reads (logs.moment read.handed.value) (logs.moment read.log) (let r : Result LogRows LogFault = Ok read.rows in r)
  pub says : logs.says Rows unchanged read.handed.value read.log None
