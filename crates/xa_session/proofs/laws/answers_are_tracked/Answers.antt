use Rattle.xa_session.proofs.Tracking.{answer_tracked}
use Rattle.xa_session.proofs.laws.answers_are_tracked.Goals as goal

pub returns : goal.returns
returns g c = λ o seen l c a old new has keeps follows. answer_tracked o seen old new keeps.0 keeps.1 keeps.2 l c a has follows
