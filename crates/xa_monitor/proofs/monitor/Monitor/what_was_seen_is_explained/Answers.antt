use Rattle.xa_monitor.proofs.Choices.{chosen}
use Rattle.xa_monitor.proofs.Following.{by_did, no_standing, somewhere}
use Rattle.xa_monitor.specs.Monitor.{states_of}
use Rattle.xa_monitor.proofs.monitor.Monitor.what_was_seen_is_explained.Goals as goal

pub returns-clause-explained : goal.returns-clause-explained
returns-clause-explained c o seen old keeps follows =
    let may = somewhere o seen (states_of c.args.self.now) follows in
    (chosen o seen old keeps (λ b. (may b).0) (λ b. (may b).1)).whole

pub returns-clause-did : goal.returns-clause-did
returns-clause-did c o seen e follows = by_did o seen (states_of c.args.self.now) e follows

pub returns-clause-unexplained : goal.returns-clause-unexplained
returns-clause-unexplained c o seen l d a b never follows = no_standing o seen l d a (states_of c.args.self.now) b never follows
