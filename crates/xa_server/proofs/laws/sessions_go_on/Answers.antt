use Rattle.xa_server.proofs.LeftSessions.{go_on, served_on}
use Rattle.xa_server.proofs.SessionChains.{Laws}
use Rattle.xa_server.proofs.laws.sessions_go_on.Goals as goal

pub returns : goal.returns
returns g c =
    let laws : Laws g.row.L.Denot = record {
      left = c.starts_find_the_log.ensures.left;
      decision = c.starts_find_the_log.ensures.decision;
      settlement = c.starts_find_the_log.ensures.settlement;
      done = c.starts_find_the_log.ensures.done;
      answer = c.starts_find_the_log.ensures.answer;
      explained = c.sessions_are_explained.ensures;
      waiting = c.waiting_calls_are_tracked.ensures;
    } in
    let moment = g.L.DecisionLog.moment in
    let on = go_on moment laws in
    record { on = on; served = served_on moment on c.served_sessions_agree.ensures.seen }
