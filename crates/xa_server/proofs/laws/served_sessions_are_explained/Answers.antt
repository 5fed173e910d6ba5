use Rattle.xa_server.proofs.SinceStart.{since_start}
use Rattle.xa_server.proofs.laws.served_sessions_are_explained.Goals as goal

pub returns : goal.returns
returns g c = record {
  explained = λ threads rms lines replies old new stands have o begins is_old.
      let tracks =
      since_start g.L.DecisionLog.moment c.starts_are_tracked.ensures c.sessions_are_tracked.ensures threads rms lines replies old new stands have
      o begins is_old in
      record {
        seen = tracks.more;
        told = tracks.told;
        explained = c.sessions_are_explained.ensures o tracks.more tracks.last.session is_old tracks.keeps;
      };
}
