use Rattle.xa_server.proofs.FaultLemmas.{faults_leave_all_or_none}
use Rattle.xa_server.proofs.laws.faults_leave_all_or_none.Goals as goal

pub returns : goal.returns
returns g c = λ near request old new left asks did order honest up holds leaves.
    faults_leave_all_or_none g.L.DecisionLog.moment near request old new left asks did order honest up holds leaves
