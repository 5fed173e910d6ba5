use Rattle.xa_outcomes.proofs.Recovered.{recoveries_complete}
use Rattle.xa_outcomes.proofs.laws.recoveries_complete.Goals as goal

pub returns : goal.returns
returns g c = recoveries_complete g.L.DecisionLog.moment c.heard_ends_stay.ensures.served c.told_outcomes_stand.ensures.heuristic
