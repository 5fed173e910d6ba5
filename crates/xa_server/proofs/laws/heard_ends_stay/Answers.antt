use Rattle.xa_server.proofs.HeardEnds.{heard_ends, keep_ends, served_ends}
use Rattle.xa_server.proofs.SessionChains.{Laws}
use Rattle.xa_server.proofs.laws.heard_ends_stay.Goals as goal

pub returns : goal.returns
returns g c =
    let moment = g.L.DecisionLog.moment in
    let laws : Laws g.row.L.Denot = record {
      left = c.starts_find_the_log.ensures.left;
      decision = c.starts_find_the_log.ensures.decision;
      settlement = c.starts_find_the_log.ensures.settlement;
      done = c.starts_find_the_log.ensures.done;
      answer = c.starts_find_the_log.ensures.answer;
      explained = c.sessions_are_explained.ensures;
      waiting = c.waiting_calls_are_tracked.ensures;
    } in
    record {
      seen = heard_ends;
      served = λ name last f served b s was. served_ends moment laws name last f served b s was;
      kept = keep_ends moment laws;
    }
