-- The texts of faults, as standard error shows them, and the statuses that a program ends with.
use Rattle.std.specs.Prelude.{ℕ, List, codes, ◌++◌}
use Rattle.std.specs.Fmt.{decimal}
use Rattle.xa_files.specs.declared.fault.RunFault.{RunFault}
use Rattle.xa_files.specs.declared.fault.RunFault.TheVariants.{NotToml, Header, Step, Job, Log, Memory, Work, Output}

abbrev pub fault_text : RunFault → List ℕ
fault_text NotToml = codes "xatm: scenario: not TOML"
fault_text Header = codes "xatm: scenario: header"
fault_text (Step n) = codes "xatm: scenario: step " ++ decimal n
fault_text (Job n) = codes "xatm: scenario: job " ++ decimal n
fault_text Log = codes "xatm: log"
fault_text Memory = codes "xatm: memory"
fault_text Work = codes "xatm: work"
fault_text Output = codes "xatm: output"

-- the status of a fault: 1 if the file is refused, 2 if the work on it fails
abbrev pub fault_status : RunFault → ℕ
fault_status NotToml = 1
fault_status Header = 1
fault_status (Step n) = 1
fault_status (Job n) = 1
fault_status Log = 2
fault_status Memory = 2
fault_status Work = 2
fault_status Output = 2
