use Rattle.xa_mirror.proofs.ToldMirrors.{told_failovers, told_mirrors}
use Rattle.xa_mirror.proofs.laws.told_mirrors_are_mirrors.Goals as goal

pub returns : goal.returns
returns g c =
    let moment = g.L.DecisionLog.moment in
    let starts = c.starts_are_histories.ensures in
    let parts = c.served_sessions_are_parts.ensures in
    let ends = c.heard_ends_stay.ensures.served in
    let go_on = c.mirrors_go_on.ensures in
    record {
      mirrors = told_mirrors moment starts.content starts.apart parts ends go_on.over go_on.participants go_on.failover;
      failover = told_failovers moment starts.content starts.apart parts ends go_on.over go_on.participants go_on.failover;
    }
