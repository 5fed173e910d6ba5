-- The statuses that the program ends with.
use Rattle.std.specs.Prelude.{ℕ}
use Rattle.xa_files.specs.Faults.{fault_status}
use Rattle.xa_commands.specs.declared.failure.Failure.{Failure}
use Rattle.xa_server.specs.declared.serving.ServeFault.{ServeFault}
use Rattle.xa_server.specs.declared.serving.ServeFault.TheVariants as services
use Rattle.xa_files.specs.declared.fault.RunFault.TheVariants as faults
use Rattle.xa_tm.specs.declared.manager.start.StartFault.{StartFault}
use Rattle.xa_tm.specs.declared.manager.start.StartFault.TheVariants as starts
use Rattle.xa_commands.specs.declared.failure.Failure.TheVariants.{CommandLine, Words, Unreadable, Run, Told, Failed, TooLong, Input, LogWords, Name, Older, RmNames, InUse, Refused, Half, Shut, Line}

-- 3 if the command line is refused, 1 if a file can't be read or a line of a log is wrong, 2 if a run is too long for a picture, the requests
-- of a driver can't be read, or the log fails; of a log 4 if it is older than was asked for, 5 if another process has it, 6 if it is none or
-- another's, 7 if only a part of it is there, 8 if it is shut; else the status of the fault
abbrev pub failure_status : Failure → ℕ
failure_status (CommandLine text) = 3
failure_status Words = 3
failure_status LogWords = 3
failure_status Name = 3
failure_status RmNames = 3
failure_status (Unreadable text) = 1
failure_status TooLong = 2
failure_status Input = 2
failure_status (Older text) = 4
failure_status (InUse text) = 5
failure_status (Refused text) = 6
failure_status (Half text) = 7
failure_status (Shut text) = 8
failure_status (Line number fault) = 1
failure_status (Run fault) = fault_status fault
failure_status (Told fault text) = fault_status fault
failure_status (Failed text) = 2

-- why a coordinator didn't start
abbrev pub failure_of_start : StartFault → Failure
failure_of_start starts.Log = Run faults.Log
failure_of_start starts.Memory = Run faults.Memory

-- why a session with a driver ended early; of a strange branch the log is to blame, unless somebody has it and shuts it
abbrev pub failure_of_service : ServeFault → Failure
failure_of_service services.Input = Input
failure_of_service services.Output = Run faults.Output
failure_of_service services.Memory = Run faults.Memory
failure_of_service services.Strange = Run faults.Log
