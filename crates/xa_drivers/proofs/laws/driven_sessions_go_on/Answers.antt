use Rattle.xa_drivers.proofs.Sessions.{go_on}
use Rattle.xa_drivers.proofs.laws.driven_sessions_go_on.Goals as goal

pub returns : goal.returns
returns g c = go_on g.L.DecisionLog.moment c.drivers_suffice.ensures.all c.sessions_go_on.ensures.on
