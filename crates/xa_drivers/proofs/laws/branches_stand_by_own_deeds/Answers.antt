use Rattle.xa_drivers.proofs.OwnDeeds.{stand_by_own}
use Rattle.xa_drivers.proofs.laws.branches_stand_by_own_deeds.Goals as goal

pub returns : goal.returns
returns c = stand_by_own
