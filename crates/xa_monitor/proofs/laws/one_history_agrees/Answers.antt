use Rattle.xa_monitor.proofs.OneHistory.{history_alike, history_decides}
use Rattle.xa_monitor.proofs.laws.one_history_agrees.Goals as goal

pub returns : goal.returns
returns c = record {
  agree = λ log f one. history_alike log f one;
  rows = λ log f next one finds. history_decides log f next one finds;
}
