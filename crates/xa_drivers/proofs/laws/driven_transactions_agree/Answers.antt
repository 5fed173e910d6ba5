use Rattle.xa_drivers.proofs.Sessions.{served_for}
use Rattle.xa_drivers.proofs.laws.driven_transactions_agree.Goals as goal

pub returns : goal.returns
returns g c =
    let moment = g.L.DecisionLog.moment in
    let are = served_for moment c.drivers_suffice.ensures.each in
    record { served = are; agree = λ name x content f driven. c.served_transactions_agree.ensures.agree name x content f (are name x content f driven) }
