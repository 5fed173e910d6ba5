use Rattle.xa_outcomes.proofs.ServedOutcomes.{found_rows, owed_logged, owed_tells, untold_undecided}
use Rattle.xa_server.proofs.SessionChains.{Laws}
use Rattle.xa_outcomes.proofs.laws.next_starts_tell.Goals as goal

pub returns : goal.returns
returns g c =
    let moment = g.L.DecisionLog.moment in
    let laws : Laws g.row.L.Denot = record {
      left = c.starts_find_the_log.ensures.left;
      decision = c.starts_find_the_log.ensures.decision;
      settlement = c.starts_find_the_log.ensures.settlement;
      done = c.starts_find_the_log.ensures.done;
      answer = c.starts_find_the_log.ensures.answer;
      explained = c.sessions_are_explained.ensures;
      waiting = c.waiting_calls_are_tracked.ensures;
    } in
    let starts = c.starts_are_histories.ensures in
    record {
      owed = owed_logged g.row.L.Denot;
      listed = owed_tells moment laws starts.content starts.apart;
      found = found_rows moment laws starts.content starts.apart;
      undecided = untold_undecided moment laws starts.content starts.apart;
    }
