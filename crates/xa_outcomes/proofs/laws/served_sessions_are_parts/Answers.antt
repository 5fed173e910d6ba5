use Rattle.xa_outcomes.proofs.ServedOutcomes.{are_served_parts}
use Rattle.xa_server.proofs.SessionChains.{Laws}
use Rattle.xa_outcomes.proofs.laws.served_sessions_are_parts.Goals as goal

pub returns : goal.returns
returns g c =
    let laws : Laws g.row.L.Denot = record {
      left = c.starts_find_the_log.ensures.left;
      decision = c.starts_find_the_log.ensures.decision;
      settlement = c.starts_find_the_log.ensures.settlement;
      done = c.starts_find_the_log.ensures.done;
      answer = c.starts_find_the_log.ensures.answer;
      explained = c.sessions_are_explained.ensures;
      waiting = c.waiting_calls_are_tracked.ensures;
    } in
    are_served_parts g.L.DecisionLog.moment laws
