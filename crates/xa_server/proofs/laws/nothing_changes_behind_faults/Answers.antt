use Rattle.xa_server.proofs.BehindFaults.{nothing_behind}
use Rattle.xa_server.proofs.laws.nothing_changes_behind_faults.Goals as goal

pub returns : goal.returns
returns g c = nothing_behind g.L.DecisionLog.moment
