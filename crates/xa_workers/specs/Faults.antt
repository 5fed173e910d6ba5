-- Which fault is told, if workers ended before their work was done.
use Rattle.std.specs.Prelude.{Bool, true, false, List, Result, Ok, Err, if◌then◌else◌}
use Rattle.std.specs.List.{list_any}
use Rattle.xa_workers.specs.declared.fault.Halt.{Halt}
use Rattle.xa_workers.specs.declared.fault.Halt.TheVariants.{Fault, Stopped}
use Rattle.xa_workers.specs.declared.fault.WorkFault.{WorkFault}
use Rattle.xa_workers.specs.declared.fault.WorkFault.TheVariants.{Memory, Log, Stuck, Mixed}

abbrev pub same_fault : WorkFault → WorkFault → Bool
same_fault Memory Memory = true
same_fault Log Log = true
same_fault Stuck Stuck = true
same_fault Mixed Mixed = true
same_fault a b = false

-- whether a worker that ended so names the fault as its reason
abbrev pub tells : {T : Type 0} → WorkFault → Result T Halt → Bool
tells fault (Err (Fault told)) = same_fault told fault
tells fault (Err Stopped) = false
tells fault (Ok left) = false

-- Of Memory, Log and Stuck, the first that a worker names. It is Mixed if no worker names one of
-- these.
abbrev pub first_told : {T : Type 0} → List (Result T Halt) → WorkFault
first_told ends =
    if list_any (tells Memory) ends then Memory
    else (if list_any (tells Log) ends then Log
    else (if list_any (tells Stuck) ends then Stuck else Mixed))

-- how a worker ended, without what it left
abbrev pub end_of : {T : Type 0} → Result T Halt → Result (Unit {0}) Halt
end_of (Ok left) = Ok tt
end_of (Err halt) = Err halt
