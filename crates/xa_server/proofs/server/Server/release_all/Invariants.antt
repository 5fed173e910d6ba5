use Rattle.std.proofs.Common.{drop}
use Rattle.xa_server.specs.Releasing.{ReleasesAll}
use Rattle.xa_server.specs.declared.server.Server.{Server}
use Rattle.xa_session.specs.Session.{IsReady}
use Rattle.xa_server.proofs.server.Server.release_all.Given as goal

-- the session is ready, and the releases from here on are the rest of all
abbrev pub invariant-loop-gtrid : goal.invariant-loop-gtrid
invariant-loop-gtrid g l = record {
  ready : IsReady l.self.session;
  rest : (new : Server g.row.L.Denot) → ReleasesAll (drop l.gtrid-index l.gtrids) l.self new → ReleasesAll l.gtrids l.fn.self new;
}
