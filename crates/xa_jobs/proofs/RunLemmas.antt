-- Why a run ended.
use Rattle.std.proofs.Common.{◌≡◌, ◌≢◌, ◌∙◌, List, ℕ, Option, Result, Ok, Err, IfErr, IfOk, OnOk, ap, refl, sym, subst}
use Rattle.xa_files.proofs.ReadingLemmas.{explained as explained_by_text}
use Rattle.xa_files.specs.Reading.{Fails, SaysOfReading}
use Rattle.xa_files.specs.declared.fault.RunFault.{RunFault}
use Rattle.xa_files.specs.declared.fault.RunFault.TheVariants.{NotToml, Header, Step, Job, Log, Memory, Work, Output}
use Rattle.xa_jobs.specs.JobFiles.{JobPlan, job_plan_of, jobs_of}
use Rattle.xa_jobs.specs.JobRuns.{Begins, BeginsEnds, IsRunFault, IsWorkFault, RunsFile, RunsJobs, run_fault_of}
use Rattle.xa_log.specs.declared.decision_log.DecisionLog as DecisionLog
use Rattle.xa_workers.specs.declared.fault.WorkFault.{WorkFault}
use Rattle.xa_workers.specs.declared.fault.WorkFault.TheVariants as work
use Rattle.xa_workers.specs.declared.jobs.Jobs.{Jobs}
use Rattle.xa_jobs.proofs.TextFaults as texts

-- ** a fault of the reading

pub explains : (fault : RunFault) (text : List ℕ) → Fails fault (jobs_of text) → SaysOfReading fault (jobs_of text)
explains fault text =
    explained_by_text fault (jobs_of text) (texts.not_of_log text) (texts.not_of_work text) (texts.not_of_output text)

-- no reading ends with a fault of the output
pub not_of_output : (fault : RunFault) (text : List ℕ) → Fails fault (jobs_of text) → fault ≡ Output → ⊥
not_of_output fault text fails e = texts.not_of_output text
    (subst (λ (f : RunFault). Fails f (jobs_of text)) e fails)

-- nor with one of the work
pub not_of_work : (fault : RunFault) (text : List ℕ) → Fails fault (jobs_of text) → fault ≡ Work → ⊥
not_of_work fault text fails e = texts.not_of_work text (subst (λ (f : RunFault). Fails f (jobs_of text)) e fails)

-- ** a fault of the run

pub is_work_fault : (fault : WorkFault) → IsWorkFault (run_fault_of fault)
is_work_fault work.Memory = tt
is_work_fault work.Log = tt
is_work_fault work.Stuck = tt
is_work_fault work.Mixed = tt

pub work_is_run : (fault : RunFault) → IsWorkFault fault → IsRunFault fault
work_is_run Log is = tt
work_is_run Memory is = tt
work_is_run Work is = tt
work_is_run NotToml is = elim is [ ]
work_is_run Header is = elim is [ ]
work_is_run (Step n) is = elim is [ ]
work_is_run (Job n) is = elim is [ ]
work_is_run Output is = elim is [ ]

-- it comes before the writes
pub not_output : (fault : RunFault) → IsWorkFault fault → fault ≡ Output → ⊥
not_output fault is e = subst IsWorkFault e is

explained : (plan : JobPlan) (fault : RunFault) → IsRunFault fault → SaysOfReading fault (Ok plan)
explained plan Log is = refl
explained plan Memory is = tt
explained plan Work is = refl
explained plan Output is = refl
explained plan NotToml is = elim is [ ]
explained plan Header is = elim is [ ]
explained plan (Step n) is = elim is [ ]
explained plan (Job n) is = elim is [ ]

explained_by : {A : Type 0} (plan : JobPlan) (result : Result A RunFault) → IfErr result IsRunFault
    → IfErr result (λ e. SaysOfReading e (Ok plan))
explained_by plan (Ok done) is = tt
explained_by plan (Err e) is = explained plan e is

-- a file that was read has faults of the run only
pub run_explains : {A : Type 0} (plan : JobPlan) (read : Result JobPlan RunFault) (result : Result A RunFault) → read ≡ Ok plan
    → IfErr result IsRunFault → IfErr result (λ e. SaysOfReading e read)
run_explains plan read result is faults =
    subst (λ (r : Result JobPlan RunFault). IfErr result (λ e. SaysOfReading e r)) (sym is) (explained_by plan result faults)

-- and none of its own
pub no_fault : (plan : JobPlan) (read : Result JobPlan RunFault) (fault : RunFault) → read ≡ Ok plan → read ≡ Err fault → ⊥
no_fault plan read fault is other = let e : ◌≡◌ {A = Result JobPlan RunFault} (Ok plan) (Err fault) = sym is ∙ other in cc

-- ** what was written

pub file_run : {L : Type 0} (g : DecisionLog.Ghosts L) (text : List ℕ) (jobs : Jobs) (old new : Option (List ℕ)) (first : L)
    (result : Result L RunFault) → jobs_of text ≡ Ok (job_plan_of jobs)
    → IfOk result (RunsJobs g jobs old new first) → IfOk result (RunsFile g text old new first)
file_run g text jobs old new first (Ok log) reads runs = record { jobs = jobs; reads = reads; runs = runs }
file_run g text jobs old new first (Err e) reads runs = tt

pub ends_begun : (text : List ℕ) (plan : JobPlan) (old new : Option (List ℕ)) → jobs_of text ≡ Ok plan
    → BeginsEnds plan old new → Begins text old new
ends_begun text plan old new reads lines = record { plan = plan; reads = reads; lines = lines }

-- and so it is by the fault of the output, whatever a run that ends well gives
pub begun_at_output : {A : Type 0} (result : Result A RunFault) (P Q : Type 0) → (P → Q)
    → IfErr result (λ e. e ≡ Output → P) → IfErr result (λ e. e ≡ Output → Q)
begun_at_output (Ok x) P Q so known = tt
begun_at_output (Err e) P Q so known = λ is. so (known is)

-- ** a fault of the log

-- a run that ends otherwise for its file ended otherwise than by its log
pub not_by_the_log : {A B : Type 0} (fault : WorkFault) (told : RunFault) → told ≡ run_fault_of fault
    → ◌≢◌ {A = Result A RunFault} (Err told) (Err Log) → ◌≢◌ {A = Result B WorkFault} (Err fault) (Err work.Log)
not_by_the_log work.Memory told is other same = cc
not_by_the_log work.Log told is other same = other (ap (λ e. Err e) is)
not_by_the_log work.Stuck told is other same = cc
not_by_the_log work.Mixed told is other same = cc

-- so it is of what is told of it
pub not_told_as_log : {A B : Type 0} (ran : Result A WorkFault) (told : Result B RunFault)
    → IfErr ran (λ fault. told ≡ Err (run_fault_of fault)) → told ≢ Err Log → ran ≢ Err work.Log
not_told_as_log (Ok done) told is other = λ e. cc
not_told_as_log (Err fault) told is other = not_by_the_log fault (run_fault_of fault) refl (λ e. other (is ∙ e))

-- and the fault that is told is one of a run
pub fault_told : {A : Type 0} (ran : Result A WorkFault) (told : Result A RunFault)
    → IfOk ran (λ done. told ≡ Ok done) → IfErr ran (λ fault. told ≡ Err (run_fault_of fault)) → IfErr told IsWorkFault
fault_told (Ok done) told is fault = rw is tt
fault_told (Err fault) told done is = rw is (is_work_fault fault)

-- ** what is handed on

-- what holds of what a run came to holds of what is told of it
pub told_as : {A : Type 0} (P : A → Type 0) (ran : Result A WorkFault) (told : Result A RunFault)
    → IfOk ran (λ done. told ≡ Ok done) → IfErr ran (λ fault. told ≡ Err (run_fault_of fault)) → IfOk ran P → IfOk told P
told_as P (Ok done) told is fault holds = rw is holds
told_as P (Err fault) told done is holds = rw is tt

-- it is so if it ends well, and if it ends by the work
pub where_well : {A : Type 0} (result : Result A RunFault) (P : Type 0) → (result ≢ Err Log → P) → OnOk result P
where_well (Ok done) P known = known (λ e. cc)
where_well (Err e) P known = tt

pub where_by_work : {A : Type 0} (result : Result A RunFault) (P : Type 0) → (result ≢ Err Log → P) → result ≡ Err Work → P
where_by_work {A = A} result P known is =
    known (λ e. let no : ◌≡◌ {A = Result A RunFault} (Err Work) (Err Log) = sym is ∙ e in cc)
