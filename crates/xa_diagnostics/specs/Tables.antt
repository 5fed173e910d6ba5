-- The fault of a table of a file.
use Rattle.std.specs.Prelude.{ℕ}
use Rattle.xa_diagnostics.specs.declared.document.FileKind.{FileKind}
use Rattle.xa_diagnostics.specs.declared.document.FileKind.TheVariants.{Scenario, Jobs}
use Rattle.xa_files.specs.declared.fault.RunFault.{RunFault}
use Rattle.xa_files.specs.declared.fault.RunFault.TheVariants.{Step, Job}

-- that of the table of a number in its own file
abbrev pub table_fault : FileKind → ℕ → RunFault
table_fault Scenario number = Step number
table_fault Jobs number = Job number
