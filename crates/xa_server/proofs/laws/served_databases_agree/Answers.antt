use Rattle.xa_server.proofs.SinceStart.{since_start}
use Rattle.xa_server.proofs.laws.served_databases_agree.Goals as goal

pub returns : goal.returns
returns g c = record {
  agree = λ threads rms lines replies old new stands have o begins is_old.
      let tracks =
      since_start g.L.DecisionLog.moment c.starts_are_tracked.ensures c.sessions_are_tracked.ensures threads rms lines replies old new stands have
      o begins is_old in
      record {
        seen = tracks.more;
        told = tracks.told;
        explained = c.sessions_are_explained.ensures o tracks.more tracks.last.session is_old tracks.keeps;
        last = tracks.last;
        to_end = tracks.to_end;
        waiting = λ t r n lt lr. c.waiting_calls_are_tracked.ensures o tracks.more tracks.last.session t r n tracks.keeps lt lr;
        agree = λ f so. c.answers_are_explained.ensures.agree o tracks.more is_old tracks.keeps.0 f so;
      };
}
