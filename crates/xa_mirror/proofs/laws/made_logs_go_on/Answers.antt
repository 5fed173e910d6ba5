use Rattle.xa_mirror.proofs.OneHistory.{failovers_go_on, logs_go_on}
use Rattle.xa_server.proofs.SessionChains.{Laws}
use Rattle.xa_mirror.proofs.laws.made_logs_go_on.Goals as goal

pub returns : goal.returns
returns g c =
    let moment = g.L.DecisionLog.moment in
    let laws : Laws g.row.L.Denot = record {
      left = c.starts_find_the_log.ensures.left;
      decision = c.starts_find_the_log.ensures.decision;
      settlement = c.starts_find_the_log.ensures.settlement;
      done = c.starts_find_the_log.ensures.done;
      answer = c.starts_find_the_log.ensures.answer;
      explained = c.sessions_are_explained.ensures;
      waiting = c.waiting_calls_are_tracked.ensures;
    } in
    let starts = c.starts_are_histories.ensures in
    record {
      history = logs_go_on moment laws starts.content starts.apart;
      failover = failovers_go_on moment laws starts.content starts.apart;
    }
