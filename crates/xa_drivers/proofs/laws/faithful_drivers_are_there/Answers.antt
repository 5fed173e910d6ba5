use Rattle.xa_drivers.proofs.Refused.{refuse}
use Rattle.xa_drivers.proofs.Worked.{are_there}
use Rattle.xa_drivers.proofs.laws.faithful_drivers_are_there.Goals as goal

pub returns : goal.returns
returns c = record { there = are_there; refused = refuse }
