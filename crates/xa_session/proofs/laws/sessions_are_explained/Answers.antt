use Rattle.xa_monitor.proofs.Following.{somewhere}
use Rattle.xa_monitor.proofs.Choices.{chosen}
use Rattle.xa_monitor.specs.Monitor.{states_of}
use Rattle.xa_session.proofs.laws.sessions_are_explained.Goals as goal

pub returns : goal.returns
returns g c = λ o seen s old keeps.
    let may = somewhere o seen (states_of s.monitor) keeps.2 in
    (chosen o seen old keeps.0 (λ b. (may b).0) (λ b. (may b).1)).whole
