use Rattle.xa_drivers.proofs.Sessions.{served}
use Rattle.xa_drivers.proofs.laws.driven_sessions_agree.Goals as goal

pub returns : goal.returns
returns g c =
    let moment = g.L.DecisionLog.moment in
    let are = served moment c.drivers_suffice.ensures.all in
    record { served = are; agree = λ name last f driven. c.served_sessions_agree.ensures.agree name last f (are name last f driven) }
