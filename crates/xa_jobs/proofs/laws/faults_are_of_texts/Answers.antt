use Rattle.xa_jobs.proofs.TextFaults.{faults_are_of_texts}
use Rattle.xa_jobs.proofs.laws.faults_are_of_texts.Goals as goal

pub returns : goal.returns
returns c = faults_are_of_texts
