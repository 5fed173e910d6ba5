use Rattle.xa_mirror.proofs.ServedAnew.{anew_alike, anew_commits, anew_never, failovers_agree, over_one_log, settled_over, waited_over}
use Rattle.xa_server.proofs.SessionChains.{Laws}
use Rattle.xa_mirror.proofs.laws.mirrors_go_on.Goals as goal

pub returns : goal.returns
returns g c =
    let moment = g.L.DecisionLog.moment in
    let laws : Laws g.row.L.Denot = record {
      left = c.starts_find_the_log.ensures.left;
      decision = c.starts_find_the_log.ensures.decision;
      settlement = c.starts_find_the_log.ensures.settlement;
      done = c.starts_find_the_log.ensures.done;
      answer = c.starts_find_the_log.ensures.answer;
      explained = c.sessions_are_explained.ensures;
      waiting = c.waiting_calls_are_tracked.ensures;
    } in
    let starts = c.starts_are_histories.ensures in
    record {
      agree = λ name h content f served. anew_alike moment laws starts.content starts.apart name h content f served;
      decided = λ name h content f served was. anew_commits moment laws starts.content starts.apart name h content f served was;
      undecided = λ name h content f served was. anew_never moment laws starts.content starts.apart name h content f served was;
      over = λ name h content f served none settled. settled_over moment laws starts.content starts.apart name h content f served none settled;
      participants = λ name h content f served has over. waited_over moment laws starts.content starts.apart name h content f served has over;
      one_log = λ name h content f served. over_one_log moment name h content f served;
      failover = failovers_agree moment laws starts.content starts.apart;
    }
