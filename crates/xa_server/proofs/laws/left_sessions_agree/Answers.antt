use Rattle.xa_server.proofs.LeftSessions.{all_alike, are_under, begin, wait}
use Rattle.xa_server.proofs.laws.left_sessions_agree.Goals as goal

pub returns : goal.returns
returns c =
    let laws = c.sessions_agree.ensures in
    let starts = c.starts_are_histories.ensures in
    record {
      begin = begin;
      between = wait;
      agree = all_alike laws.agree laws.rows laws.decided laws.history starts.content starts.apart;
      standings = are_under c.names_part_identifiers.ensures.read;
    }
