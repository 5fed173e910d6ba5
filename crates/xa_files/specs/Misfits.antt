-- Why documents are refused.
use Rattle.std.specs.Prelude.{◌≡◌, Result, Ok, Err}
use Rattle.xa_files.specs.Reading.{Fails}
use Rattle.xa_files.specs.declared.fault.RunFault.{RunFault}
use Rattle.xa_files.specs.declared.fault.RunFault.TheVariants as faults
use Rattle.xa_files.specs.declared.misfit.Misfit.{Misfit}
use Rattle.xa_files.specs.declared.misfit.Misfit.TheVariants.{Header, Step, Job, Memory}

-- the fault of a run of the document
abbrev pub document_fault_of : Misfit → RunFault
document_fault_of (Header finding) = faults.Header
document_fault_of (Step n finding) = faults.Step n
document_fault_of (Job n finding) = faults.Job n
document_fault_of Memory = faults.Memory

-- What a reader returned, seen by `view`, is what the document gives, unless memory ran out: if it
-- refuses, the refusal is one of the document's own fault.
abbrev pub ReadsDocument : {X Y : Type 0} → (X → Y) → Result X Misfit → Result Y RunFault → Type 0
ReadsDocument view (Ok x) read = read ≡ Ok (view x)
ReadsDocument view (Err misfit) read = Fails (document_fault_of misfit) read
