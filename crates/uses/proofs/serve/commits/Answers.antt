use Rattle.uses.proofs.Sessions.{logs_commits}
use Rattle.uses.proofs.serve.commits.Goals as goal
use Rattle.std.proofs.lemmas.Result.{IfOk-weaker}

pub returns : goal.returns
returns g c =
    IfOk-weaker c.served_over.result _ _
    (λ left is. logs_commits g.L.DecisionLog.moment 2 2 c.args.log left.1 c.args.text.now left.0.items is c.voted_commits_are_logged.ensures)
    c.served_over.ensures
