use Rattle.xa_session.proofs.Tracking.{calls_tracked}
use Rattle.xa_session.proofs.laws.waiting_calls_are_tracked.Goals as goal

pub returns : goal.returns
returns g c = λ o seen s t r n keeps lt lr. calls_tracked o seen s keeps t r n lt lr
