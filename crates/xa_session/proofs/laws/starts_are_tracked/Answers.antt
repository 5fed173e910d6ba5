use Rattle.xa_session.proofs.Tracking.{start_tracked}
use Rattle.xa_session.proofs.laws.starts_are_tracked.Goals as goal

pub returns : goal.returns
returns g c = λ threads rms s stands o begins. start_tracked threads rms s stands o begins
