use Rattle.std.proofs.Common.{refl}
use Rattle.xa_server.proofs.TrackLemmas.{replies_tracked}
use Rattle.xa_server.proofs.SessionTracks.{Laws}
use Rattle.xa_server.proofs.laws.sessions_are_tracked.Goals as goal

pub returns : goal.returns
returns g c = λ o seen lines replies old new keeps have.
    let laws : Laws g.row.L.Denot = record {
      steps = c.steps_are_tracked.ensures;
      answers = c.answers_are_tracked.ensures;
      losses = c.losses_are_tracked.ensures;
      refusals = c.refusals_are_tracked.ensures;
      releases = c.releases_are_tracked.ensures;
    } in
    replies_tracked laws o g.L.DecisionLog.moment lines replies old.session.lines.threads seen old new keeps refl have
