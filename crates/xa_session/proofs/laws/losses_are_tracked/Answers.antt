use Rattle.xa_session.proofs.Tracking.{loss_tracked}
use Rattle.xa_session.proofs.laws.losses_are_tracked.Goals as goal

pub returns : goal.returns
returns g c = λ o seen l c old new keeps follows. loss_tracked o seen old new keeps.0 keeps.1 keeps.2 l c follows
