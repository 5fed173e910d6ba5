use Rattle.xa_session.proofs.Tracking.{step_tracked}
use Rattle.xa_session.proofs.laws.steps_are_tracked.Goals as goal

pub returns : goal.returns
returns g c = λ o seen e old new managers keeps follows. step_tracked o seen old new keeps.0 keeps.1 keeps.2 e managers follows
