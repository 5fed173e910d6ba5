-- Why lines make no log.
use Rattle.std.specs.Prelude.{ℕ, ◌+◌, ◌-◌, ◌^◌, min}
use Rattle.xa_restore.specs.declared.faults.RestoreFault.{RestoreFault}
use Rattle.xa_restore.specs.declared.faults.RestoreFault.TheVariants.{Line, Memory}

-- the same fault of lines behind so many others
abbrev pub fault_behind : RestoreFault → ℕ → RestoreFault
fault_behind (Line number fault) count = Line (min (number + count) (2 ^ 64 - 1)) fault
fault_behind Memory count = Memory
