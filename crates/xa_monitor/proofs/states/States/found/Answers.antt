use Rattle.xa_monitor.proofs.RowLemmas.BreakRows.{found_iff}
use Rattle.xa_monitor.proofs.states.States.found.Goals as goal

pub returns : goal.returns
returns c = found_iff
