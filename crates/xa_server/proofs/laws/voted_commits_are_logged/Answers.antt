use Rattle.xa_server.proofs.LoggedCommits.{voted_commits_are_logged}
use Rattle.xa_server.proofs.laws.voted_commits_are_logged.Goals as goal

pub returns : goal.returns
returns g c = λ near votes heard line gs old mid new h are have asked replied among order honest holds.
    voted_commits_are_logged g.L.DecisionLog.moment near votes heard line gs old mid new h are have asked replied among order honest holds
