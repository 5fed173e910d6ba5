use Rattle.xa_monitor.proofs.OneHistory.{commit_stands, one_history, rows_decide, sessions_alike}
use Rattle.xa_monitor.proofs.laws.sessions_agree.Goals as goal

pub returns : goal.returns
returns c = record {
  agree = λ log f after. sessions_alike log f after;
  rows = λ log f next after finds. rows_decide log f after next finds;
  decided = λ log f next b after was finds. commit_stands log f after next finds b was;
  history = λ log f after. one_history log f after;
}
