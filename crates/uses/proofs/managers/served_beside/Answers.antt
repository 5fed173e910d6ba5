use Rattle.uses.proofs.PathProcesses.{beside_so}
use Rattle.uses.proofs.managers.served_beside.Goals as goal

pub returns : goal.returns
returns g c =
    let one = c.in_ok-one.one in
    let two = c.in_ok-two.two in
    beside_so g.L.DecisionLog.moment c.left_sessions_agree.ensures.begin c.managers_agree.ensures.left c.args.name.now c.args.other.now
    c.args.logs.0 c.args.logs.1 one.1 two.1 c.args.first.now c.args.second.now one.0.items two.0.items c.in_ok-one.ensures c.in_ok-two.ensures
