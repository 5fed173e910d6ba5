use Rattle.xa_monitor.proofs.RowLemmas.StateSets.{empty_iff}
use Rattle.xa_monitor.proofs.states.States.is_empty.Goals as goal

pub returns : goal.returns
returns c = empty_iff c.args.self c.is_some.result c.is_some.ensures
