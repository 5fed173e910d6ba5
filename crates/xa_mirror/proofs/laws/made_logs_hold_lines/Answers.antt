use Rattle.xa_mirror.proofs.MadeLogs.{made_logs}
use Rattle.xa_mirror.proofs.laws.made_logs_hold_lines.Goals as goal

pub returns : goal.returns
returns g c = made_logs g.L.DecisionLog.moment c.restored_logs_hold_what_is_said.ensures
