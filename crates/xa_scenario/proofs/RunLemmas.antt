-- Why a run ended.
use Rattle.std.proofs.Common.{◌≡◌, ◌≢◌, ℕ, List, Option, Ok, subst}
use Rattle.xa_files.specs.Outputs.{AppendsBeginning}
use Rattle.xa_files.proofs.ReadingLemmas.{explained}
use Rattle.xa_files.specs.Reading.{Fails, SaysOfReading}
use Rattle.xa_files.specs.declared.fault.RunFault.{RunFault}
use Rattle.xa_files.specs.declared.fault.RunFault.TheVariants.{Log, Work, Output}
use Rattle.xa_scenario.specs.Runs.{BeginsCheck, check_line}
use Rattle.xa_scenario_file.specs.Scenarios.{Plan, scenario_of}
use Rattle.xa_scenario_file.proofs.TextFaults as texts

-- a fault of the reading
pub explains : (fault : RunFault) (text : List ℕ) → Fails fault (scenario_of text) → SaysOfReading fault (scenario_of text)
explains fault text =
    explained fault (scenario_of text) (texts.not_of_log text) (texts.not_of_work text) (texts.not_of_output text)

-- no reading ends with a fault of the output
pub not_of_output : (fault : RunFault) (text : List ℕ) → Fails fault (scenario_of text) → fault ≡ Output → ⊥
not_of_output fault text fails e = texts.not_of_output text (subst (λ (f : RunFault). Fails f (scenario_of text)) e fails)

-- nor with one of the work
pub not_of_work : (fault : RunFault) (text : List ℕ) → Fails fault (scenario_of text) → fault ≢ Work
not_of_work fault text fails e = texts.not_of_work text (subst (λ (f : RunFault). Fails f (scenario_of text)) e fails)

-- nor with one of the log
pub not_of_log : (fault : RunFault) (text : List ℕ) → Fails fault (scenario_of text) → fault ≢ Log
not_of_log fault text fails e = texts.not_of_log text (subst (λ (f : RunFault). Fails f (scenario_of text)) e fails)

-- a beginning of a check
pub begins_check : (text : List ℕ) (plan : Plan) (old new : Option (List ℕ)) → scenario_of text ≡ Ok plan → AppendsBeginning old new (check_line plan)
    → BeginsCheck text old new
begins_check text plan old new reads written = record { plan = plan; reads = reads; begins = written }
