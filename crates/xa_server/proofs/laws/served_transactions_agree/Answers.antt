use Rattle.xa_server.proofs.OwnSessions.{transaction_alike, transaction_commits, transaction_never}
use Rattle.xa_server.proofs.SessionChains.{Laws}
use Rattle.xa_server.proofs.laws.served_transactions_agree.Goals as goal

pub returns : goal.returns
returns g c =
    let laws : Laws g.row.L.Denot = record {
      left = c.starts_find_the_log.ensures.left;
      decision = c.starts_find_the_log.ensures.decision;
      settlement = c.starts_find_the_log.ensures.settlement;
      done = c.starts_find_the_log.ensures.done;
      answer = c.starts_find_the_log.ensures.answer;
      explained = c.sessions_are_explained.ensures;
      waiting = c.waiting_calls_are_tracked.ensures;
    } in
    let starts = c.starts_are_histories.ensures in
    let moment = g.L.DecisionLog.moment in
    record {
      agree = λ name h content f served. transaction_alike moment laws name h starts.content starts.apart content f served;
      decided = λ name h content f served was. transaction_commits moment laws name h starts.content starts.apart content f served was;
      undecided = λ name h content f served was. transaction_never moment laws name h starts.content starts.apart content f served was;
    }
