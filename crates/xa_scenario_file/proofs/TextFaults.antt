-- The faults that texts can have.
use Rattle.std.proofs.Common.{◌≡◌, ◌≢◌, List, inl, inr, ℕ, ◌+◌, [], Ok, Err, refl}
use Rattle.toml.specs.Data.{Data, Items, Members}
use Rattle.xa_scenario_file.specs.Headers.{header_at}
use Rattle.xa_files.specs.TablesInTurn.{IsTextFault, FaultsAreOfTexts}
use Rattle.xa_scenario_file.specs.StepTables.{names_before}
use Rattle.xa_scenario_file.specs.Scenarios.{Plan, entry_at, entry_in, entries_from, header_of, scenario_in, scenario_of}
use Rattle.xa_files.specs.Reading.{◌>>=◌}
use Rattle.xa_files.specs.Documents.{document_of}
use Rattle.xa_scenario_file.specs.Branches.{BegunNames}
use Rattle.xa_files.specs.declared.fault.RunFault.{RunFault}
use Rattle.xa_files.specs.declared.fault.RunFault.TheVariants.{Header, Step, Log, Work, Output}
use Rattle.xa_files.proofs.TablesInTurnLemmas.{ok_not_err}
use Rattle.xa_files.proofs.TextFaults.{document_fault, in_turn, missing, no_text_fault}
use Rattle.xa_scenario_file.proofs.ListedLemmas.{first_is_faulty}

-- the fault of an entry is that of its step
entry_fault : (number : ℕ) (begun : BegunNames) (value : Data) (fault : RunFault) → entry_at number begun value ≡ Err fault → IsTextFault Step fault
entry_fault number begun value fault is = missing Step (entry_in number begun value) (Step number) fault (inr (inr (number, refl))) is

-- the fault of the entries is that of one of them
entries_fault : (items : Items) (fault : RunFault) → entries_from 1 [] items ≡ Err fault → IsTextFault Step fault
entries_fault items fault is =
    let first = first_is_faulty items fault is in
    entry_fault (first.0 + 1) (names_before first.0 items) first.1.value fault first.1.asks

-- the faults from the entries on, and from the header on
entries_turn : (threads rms : ℕ) (items : Items) (fault : RunFault)
    → (entries_from 1 [] items >>= λ es. Ok (let p : Plan = record { threads = threads; rms = rms; entries = es } in p)) ≡ Err fault → IsTextFault Step fault
entries_turn threads rms items fault is =
    in_turn Step (entries_from 1 [] items) (λ es. Ok (let p : Plan = record { threads = threads; rms = rms; entries = es } in p)) fault
    (entries_fault items) (λ es no. absurd (ok_not_err _ fault no)) is

header_turn : (document : Members) (fault : RunFault)
    → (header_of document >>= λ h. entries_from 1 [] h.2 >>= λ es. Ok (let p : Plan = record { threads = h.0; rms = h.1; entries = es } in p))
    ≡ Err fault → IsTextFault Step fault
header_turn document fault is =
    in_turn Step (header_of document) (λ h. entries_from 1 [] h.2 >>= λ es. Ok (let p : Plan = record { threads = h.0; rms = h.1; entries = es } in p)) fault
    (λ e no. missing Step (header_at document) Header e (inr (inl refl)) no) (λ h rest. entries_turn h.0 h.1 h.2 fault rest) is

pub faults_are_of_texts : FaultsAreOfTexts Step scenario_of
unfolding scenario_of scenario_in
faults_are_of_texts text fault is =
    in_turn Step (document_of text) (λ d. header_of d >>= λ h. entries_from 1 [] h.2 >>= λ es.
    Ok (let p : Plan = record { threads = h.0; rms = h.1; entries = es } in p)) fault
    (document_fault Step text) (λ d rest. header_turn d fault rest) is

-- a text has no fault of the log, of the work or of the output
pub not_of_log : (text : List ℕ) → scenario_of text ≢ Err Log
not_of_log text is = no_text_fault Step Log (λ e. cc) (λ e. cc) (λ n e. cc) (faults_are_of_texts text Log is)

pub not_of_work : (text : List ℕ) → scenario_of text ≢ Err Work
not_of_work text is = no_text_fault Step Work (λ e. cc) (λ e. cc) (λ n e. cc) (faults_are_of_texts text Work is)

pub not_of_output : (text : List ℕ) → scenario_of text ≢ Err Output
not_of_output text is = no_text_fault Step Output (λ e. cc) (λ e. cc) (λ n e. cc) (faults_are_of_texts text Output is)
