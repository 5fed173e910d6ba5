use Rattle.std.proofs.Common.{refl}
use Rattle.xa_session.proofs.Releases.{release_keeps, release_ready, release_stands}
use Rattle.xa_session.proofs.session.Session.release.Goals as goal

pub returns-clause-ready : goal.returns-clause-ready
returns-clause-ready g c =
    let is = c.release.ensures in
    release_ready c.args.self.now c.release.new.self _ c.args.gtrid c.release.result is.over is.released (λ e. is.same e) c.requires

pub returns-clause-forgets : goal.returns-clause-forgets
returns-clause-forgets g c = λ done.
    let is = c.release.ensures in
    record {
      over = is.over done;
      nothing_held = is.forgotten done;
      book = is.released done;
      stands = release_stands c.args.self.now c.release.new.self _ c.args.gtrid c.release.result is.over is.released (λ e. is.same e);
      happenings = refl;
      log = is.log;
      lines = refl;
      monitor = refl;
    }

pub returns-clause-keeps : goal.returns-clause-keeps
returns-clause-keeps g c =
    let is = c.release.ensures in
    release_keeps g.L.DecisionLog.moment c.args.self.now.manager c.release.new.self c.args.gtrid c.release.result is.released
    (λ e. is.same e) is.log
