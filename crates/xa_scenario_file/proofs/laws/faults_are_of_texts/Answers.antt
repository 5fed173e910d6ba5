use Rattle.xa_scenario_file.proofs.TextFaults.{faults_are_of_texts}
use Rattle.xa_scenario_file.proofs.laws.faults_are_of_texts.Goals as goal

pub returns : goal.returns
returns c = faults_are_of_texts
