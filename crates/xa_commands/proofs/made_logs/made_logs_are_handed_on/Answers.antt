use Rattle.xa_commands.proofs.HandedOn.{handed_on}
use Rattle.xa_commands.proofs.made_logs.made_logs_are_handed_on.Goals as goal

pub returns : goal.returns
returns g c = handed_on g.L.DecisionLog.moment
