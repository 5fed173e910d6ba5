use Rattle.xa_drivers.proofs.Standing.{suffice, suffice_for}
use Rattle.xa_drivers.proofs.laws.drivers_suffice.Goals as goal

pub returns : goal.returns
returns c = record { all = suffice; each = suffice_for }
