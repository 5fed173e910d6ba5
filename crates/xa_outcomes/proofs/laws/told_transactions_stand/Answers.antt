use Rattle.xa_outcomes.proofs.ServedTransactions.{served_alone, served_commit, served_rollback, served_row_stays}
use Rattle.xa_server.proofs.SessionChains.{Laws}
use Rattle.xa_outcomes.proofs.laws.told_transactions_stand.Goals as goal

pub returns : goal.returns
returns g c =
    let moment = g.L.DecisionLog.moment in
    let laws : Laws g.row.L.Denot = record {
      left = c.starts_find_the_log.ensures.left;
      decision = c.starts_find_the_log.ensures.decision;
      settlement = c.starts_find_the_log.ensures.settlement;
      done = c.starts_find_the_log.ensures.done;
      answer = c.starts_find_the_log.ensures.answer;
      explained = c.sessions_are_explained.ensures;
      waiting = c.waiting_calls_are_tracked.ensures;
    } in
    let starts = c.starts_are_histories.ensures in
    record {
      committed = served_commit moment laws;
      row_stays = served_row_stays moment laws starts.content starts.apart;
      rolled_back = served_rollback moment laws;
      alone = served_alone moment laws;
    }
