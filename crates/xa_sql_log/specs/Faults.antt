-- Which fault an error of the database is told as.
use Rattle.sqlite.specs.declared.error.Error.{Error}
use Rattle.sqlite.specs.declared.error.Error.TheVariants.{SqliteFailure}
use Rattle.sqlite.specs.declared.error.ErrorCode.TheVariants.{OutOfMemory}
use Rattle.xa_log.specs.declared.log_fault.LogFault.{LogFault}
use Rattle.xa_log.specs.declared.log_fault.LogFault.TheVariants.{Store, Memory, Version}

-- that of a statement, or of an open: the store failed, but for a growth that was refused
abbrev pub store_fault_of : Error → LogFault
store_fault_of (SqliteFailure OutOfMemory) = Memory
store_fault_of error = Store

-- that of a cell: it holds no number of its type, but for a growth that was refused
abbrev pub cell_fault_of : Error → LogFault
cell_fault_of (SqliteFailure OutOfMemory) = Memory
cell_fault_of error = Version
