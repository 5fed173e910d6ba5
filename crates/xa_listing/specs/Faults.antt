-- Why a log can't be listed.
use Rattle.std.specs.Prelude.{◌≡◌, ◌⊎◌, ℕ, Option, Some, Result, Err}
use Rattle.xa_files.specs.declared.fault.RunFault.{RunFault}
use Rattle.xa_files.specs.declared.fault.RunFault.TheVariants.{Log, Memory, Output}
use Rattle.xa_log.specs.Contract.{one_more_fault}
use Rattle.xa_log.specs.declared.log_fault.LogFault.{LogFault}
use Rattle.xa_log.specs.declared.log_fault.LogFault.TheVariants as logs

-- what a fault of the log is to a run
abbrev pub fault_of_log : LogFault → RunFault
fault_of_log logs.Memory = Memory
fault_of_log logs.Store = Log
fault_of_log logs.Version = Log
fault_of_log logs.Spent = Log

-- a fault of the log, or want of memory
abbrev pub IsRowsFault : RunFault → Type 0
IsRowsFault fault = (fault ≡ Log) ⊎ (fault ≡ Memory)

-- such a fault, or one of the output
abbrev pub IsListFault : RunFault → Type 0
IsListFault fault = IsRowsFault fault ⊎ (fault ≡ Output)

-- how often the log failed: once more where that is the fault, perhaps so where memory was refused,
-- else as before
abbrev pub CountsFault : Result (Unit {0}) RunFault → (old new : ℕ) → Type 0
CountsFault (Err Log) old new = new ≡ one_more_fault old
CountsFault (Err Memory) old new = (new ≡ old) ⊎ (new ≡ one_more_fault old)
CountsFault result old new = new ≡ old

-- the log says of its call that it failed by a fault that is told so
abbrev pub TellsFault : RunFault → (says : Option LogFault → Type 0) → Type 0
TellsFault told says = (fault : LogFault) × (fault_of_log fault ≡ told) × says (Some fault)
