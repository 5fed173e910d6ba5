use Rattle.uses.proofs.TwoManagers.{served_apart}
use Rattle.uses.proofs.managers.served_apart.Goals as goal

pub returns : goal.returns
returns g c =
    let one = c.in_ok-one.one in
    let two = c.in_ok-two.two in
    served_apart g.L.DecisionLog.moment c.served_databases_agree.ensures.agree c.args.threads c.args.rms c.starts_are_tracked.ensures
    c.replies_are_tracked.ensures c.managers_stay_apart.ensures.apart c.args.name.now c.args.other.now c.args.first.now c.args.second.now one.items
    two.items c.in_ok-one.ensures c.in_ok-two.ensures
