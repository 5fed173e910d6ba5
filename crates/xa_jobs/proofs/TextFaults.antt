-- The faults that texts can have.
use Rattle.std.proofs.Common.{◌≡◌, ◌≢◌, inl, inr, ℕ, ◌+◌, Bool, List, Ok, Err, refl}
use Rattle.toml.specs.Data.{Data, Items, Members}
use Rattle.xa_files.specs.Documents.{document_of}
use Rattle.xa_files.specs.Reading.{◌>>=◌}
use Rattle.xa_files.specs.declared.fault.RunFault.{RunFault}
use Rattle.xa_files.specs.declared.fault.RunFault.TheVariants.{Header, Job, Log, Work, Output}
use Rattle.xa_jobs.specs.Headers.{jobs_header_at, jobs_header_of}
use Rattle.xa_jobs.specs.JobFiles.{JobPlan, Votes, job_at, jobs_from, jobs_in, jobs_of}
use Rattle.xa_files.specs.TablesInTurn.{IsTextFault, FaultsAreOfTexts}
use Rattle.xa_files.proofs.TablesInTurnLemmas.{ok_not_err}
use Rattle.xa_files.proofs.TextFaults.{document_fault, in_turn, missing, no_text_fault}
use Rattle.xa_jobs.proofs.ListedLemmas.{first_is_faulty}

-- the fault of a table is that of its job
job_fault : (rms number : ℕ) (value : Data) (fault : RunFault) → job_at rms number value ≡ Err fault → IsTextFault Job fault
job_fault rms number value fault is = missing Job _ (Job number) fault (inr (inr (number, refl))) is

-- the fault of the jobs is that of one of them
jobs_fault : (rms : ℕ) (items : Items) (fault : RunFault) → jobs_from rms 1 items ≡ Err fault → IsTextFault Job fault
jobs_fault rms items fault is =
    let first = first_is_faulty rms items fault is in
    job_fault rms (first.0 + 1) first.1.value fault first.1.asks

abbrev Top : Type 0
Top = ℕ × ℕ × Bool × Items

abbrev plan_with : Top → List Votes → JobPlan
plan_with h votes = record { threads = h.0; rms = h.1; sweep = h.2; votes = votes }

-- the faults from the jobs on, and from the header on
jobs_turn : (h : Top) (fault : RunFault) → (jobs_from h.1 1 h.3 >>= λ votes. Ok (plan_with h votes)) ≡ Err fault
    → IsTextFault Job fault
jobs_turn h fault is =
    in_turn Job (jobs_from h.1 1 h.3) (λ votes. Ok (plan_with h votes)) fault (jobs_fault h.1 h.3)
    (λ votes no. absurd (ok_not_err _ fault no)) is

header_turn : (document : Members) (fault : RunFault)
    → (jobs_header_of document >>= λ h. jobs_from h.1 1 h.3 >>= λ votes. Ok (plan_with h votes)) ≡ Err fault
    → IsTextFault Job fault
header_turn document fault is =
    in_turn Job (jobs_header_of document) (λ h. jobs_from h.1 1 h.3 >>= λ votes. Ok (plan_with h votes)) fault
    (λ e no. missing Job (jobs_header_at document) Header e (inr (inl refl)) no) (λ h rest. jobs_turn h fault rest) is

pub faults_are_of_texts : FaultsAreOfTexts Job jobs_of
unfolding jobs_of jobs_in
faults_are_of_texts text fault is =
    in_turn Job (document_of text) (λ d. jobs_header_of d >>= λ h. jobs_from h.1 1 h.3 >>= λ votes. Ok (plan_with h votes)) fault
    (document_fault Job text) (λ d rest. header_turn d fault rest) is

-- a text has no fault of the log, of the work or of the output
pub not_of_log : (text : List ℕ) → jobs_of text ≢ Err Log
not_of_log text is = no_text_fault Job Log (λ e. cc) (λ e. cc) (λ n e. cc) (faults_are_of_texts text Log is)

pub not_of_work : (text : List ℕ) → jobs_of text ≢ Err Work
not_of_work text is = no_text_fault Job Work (λ e. cc) (λ e. cc) (λ n e. cc) (faults_are_of_texts text Work is)

pub not_of_output : (text : List ℕ) → jobs_of text ≢ Err Output
not_of_output text is = no_text_fault Job Output (λ e. cc) (λ e. cc) (λ n e. cc) (faults_are_of_texts text Output is)
