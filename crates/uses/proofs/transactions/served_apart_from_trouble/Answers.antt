use Rattle.uses.proofs.TwoSessions.{apart_so}
use Rattle.uses.proofs.transactions.served_apart_from_trouble.Goals as goal

pub returns : goal.returns
returns g c =
    let laws = c.served_sessions_agree.ensures in
    let one = c.in_ok-one.one in
    let two = c.in_ok-two.two in
    record {
      apart = apart_so g.L.DecisionLog.moment laws.agree laws.seen c.without_a_name_nothing_changes.ensures.lines c.args.threads c.args.rms
          c.served_transactions_agree.ensures.agree c.args.log one.1 two.1 c.args.first.now c.args.second.now one.0.items two.0.items
          c.in_ok-one.ensures c.in_ok-two.ensures;
    }
