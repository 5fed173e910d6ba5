use Rattle.xa_session.proofs.Tracking.{refusal_tracked}
use Rattle.xa_session.proofs.laws.refusals_are_tracked.Goals as goal

pub returns : goal.returns
returns g c = λ o seen old new keeps stays. refusal_tracked o seen old new keeps stays
