use Rattle.xa_server.proofs.LoggedCommits.{commits_are_logged}
use Rattle.xa_server.proofs.laws.commits_are_logged.Goals as goal

pub returns : goal.returns
returns g c = λ request old new reply did. commits_are_logged g.L.DecisionLog.moment request old new reply did
