use Rattle.std.proofs.Common.{Some, subst}
use Rattle.xa_server.proofs.SessionChains.{Laws, are_sessions}
use Rattle.xa_server.proofs.LeftLogs.{commit_stands, log_decides, raised_once, start_of}
use Rattle.xa_server.proofs.LeftSessions.{as_found}
use Rattle.xa_server.specs.NamedLines.{lines_read}
use Rattle.xa_server.proofs.SinceStart.{since_start}
use Rattle.xa_session.specs.Tracking.{KeepsTrack}
use Rattle.xa_server.proofs.laws.served_sessions_agree.Goals as goal

pub returns : goal.returns
returns g c =
    let moment = g.L.DecisionLog.moment in
    let laws : Laws g.row.L.Denot = record {
      left = c.starts_find_the_log.ensures.left;
      decision = c.starts_find_the_log.ensures.decision;
      settlement = c.starts_find_the_log.ensures.settlement;
      done = c.starts_find_the_log.ensures.done;
      answer = c.starts_find_the_log.ensures.answer;
      explained = c.sessions_are_explained.ensures;
      waiting = c.waiting_calls_are_tracked.ensures;
    } in
    record {
      agree = λ name last f served. let all = are_sessions moment laws name last f served in c.sessions_agree.ensures.agree all.log f all.after;
      rows = λ name last f content served left.
          let all = are_sessions moment laws name (Some last) f served in
          let content_law = c.starts_are_histories.ensures.content in
          let apart_law = c.starts_are_histories.ensures.apart in
          let on = all.next content left (start_of content) (raised_once content_law apart_law content) in
          log_decides content_law apart_law content f (c.sessions_agree.ensures.rows on.log f (start_of content) on.after on.finds);
      decided = λ name last f content b served was left.
          let all = are_sessions moment laws name (Some last) f served in
          let content_law = c.starts_are_histories.ensures.content in
          let apart_law = c.starts_are_histories.ensures.apart in
          let on = all.next content left (start_of content) (raised_once content_law apart_law content) in
          commit_stands content_law apart_law content f b
          (c.sessions_agree.ensures.decided on.log f (start_of content) b on.after (on.decided b was) on.finds);
      history = λ name last f content next served left raised.
          let on = (are_sessions moment laws name last f served).next content left next raised in
          as_found f on.log next (c.sessions_agree.ensures.history on.log f on.after) on.finds;
      seen = λ name threads rms lines replies handed first now starts have no_fault o begins.
          let tracks = since_start moment c.starts_are_tracked.ensures c.sessions_are_tracked.ensures threads rms (lines_read name lines) replies first now
          starts.stands have o begins (starts.old o begins) in (
            tracks.more,
            tracks.told,
            record {
              threads = threads;
              rms = rms;
              first = first;
              lines = lines;
              replies = replies;
              starts = starts;
              begins = begins;
              replied = have;
              no_fault = no_fault;
              told = tracks.told;
              tracks = subst (λ n. KeepsTrack o tracks.more n.session) (tracks.to_end no_fault) tracks.keeps;
            },
          );
    }
