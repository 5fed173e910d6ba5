use Rattle.xa_drivers.proofs.Misled.{misled}
use Rattle.xa_drivers.proofs.laws.broken_rules_mislead.Goals as goal

pub returns : goal.returns
returns c = misled
