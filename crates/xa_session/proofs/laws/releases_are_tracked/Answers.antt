use Rattle.std.proofs.Common.{ap}
use Rattle.xa_session.proofs.Tracking.{still_tracked}
use Rattle.xa_monitor.specs.Monitor.{states_of}
use Rattle.xa_session.proofs.laws.releases_are_tracked.Goals as goal

pub returns : goal.returns
returns g c = λ o seen old new keeps stands same.
    still_tracked o seen old new keeps.0 keeps.1 keeps.2 stands (λ b. ap (λ m. states_of m b) same)
