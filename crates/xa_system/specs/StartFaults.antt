-- Why no system is made, if the manager didn't start.
use Rattle.xa_system.specs.declared.resume.ResumeFault.{ResumeFault}
use Rattle.xa_system.specs.declared.resume.ResumeFault.TheVariants as resumes
use Rattle.xa_system.specs.declared.system.NewFault.{NewFault}
use Rattle.xa_system.specs.declared.system.NewFault.TheVariants as news
use Rattle.xa_tm.specs.declared.manager.start.StartFault.{StartFault}
use Rattle.xa_tm.specs.declared.manager.start.StartFault.TheVariants as starts

-- of a first system
abbrev pub new_fault_of : StartFault → NewFault
new_fault_of starts.Log = news.Log
new_fault_of starts.Memory = news.Memory

-- of one that goes on
abbrev pub resume_fault_of : StartFault → ResumeFault
resume_fault_of starts.Log = resumes.Log
resume_fault_of starts.Memory = resumes.Memory
