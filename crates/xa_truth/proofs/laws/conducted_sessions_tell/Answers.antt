use Rattle.xa_truth.proofs.SessionLemmas.{notes_served, turns_served}
use Rattle.xa_truth.proofs.laws.conducted_sessions_tell.Goals as goal

pub returns : goal.returns
returns g c =
    let moment = g.L.DecisionLog.moment in
    let seen = c.served_sessions_agree.ensures.seen in
    record { turns = turns_served moment seen; notes = notes_served moment seen }
