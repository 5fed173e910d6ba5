use Rattle.uses.proofs.TwoSessions.{served_so}
use Rattle.uses.proofs.serve.served_twice.Goals as goal

pub returns : goal.returns
returns g c =
    let laws = c.served_sessions_agree.ensures in
    let one = c.in_ok-one.one in
    let two = c.in_ok-two.two in
    served_so g.L.DecisionLog.moment laws.agree laws.seen c.without_a_name_nothing_changes.ensures.lines c.args.threads c.args.rms laws.rows laws.decided c.voted_commits_are_logged.ensures
    c.args.log one.1 two.1 c.args.first.now c.args.second.now one.0.items
    two.0.items c.in_ok-one.ensures c.in_ok-two.ensures
