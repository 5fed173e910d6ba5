use Rattle.uses.proofs.TwoSessions.{silent_so}
use Rattle.uses.proofs.serve.silent.Goals as goal
use Rattle.std.proofs.lemmas.Result.{IfOk-weaker}

pub returns : goal.returns
returns g c =
    IfOk-weaker c.served_over.result _ _
    (λ left is. silent_so g.L.DecisionLog.moment c.served_sessions_agree.ensures.agree c.served_sessions_agree.ensures.seen
    c.without_a_name_nothing_changes.ensures.lines c.args.threads c.args.rms c.args.log left.1 left.0.items is)
    c.served_over.ensures
