use Rattle.xa_server.proofs.TrackLemmas.{reply_tracked}
use Rattle.xa_server.proofs.SessionTracks.{Laws}
use Rattle.xa_server.proofs.laws.replies_are_tracked.Goals as goal

pub returns : goal.returns
returns g c = λ o seen request reply old new keeps does none.
    let laws : Laws g.row.L.Denot = record {
      steps = c.steps_are_tracked.ensures;
      answers = c.answers_are_tracked.ensures;
      losses = c.losses_are_tracked.ensures;
      refusals = c.refusals_are_tracked.ensures;
      releases = c.releases_are_tracked.ensures;
    } in
    reply_tracked laws o g.L.DecisionLog.moment seen request reply old new keeps does none
