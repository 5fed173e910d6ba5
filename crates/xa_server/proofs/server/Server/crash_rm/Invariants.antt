use Rattle.std.proofs.Common.{◌-◌}
use Rattle.xa_server.specs.Crashes.{LosesFrom}
use Rattle.xa_server.specs.declared.server.Server.{Server}
use Rattle.xa_requests.specs.declared.response.Response.{Response}
use Rattle.xa_session.specs.Session.{IsReady}
use Rattle.xa_server.proofs.server.Server.crash_rm.Given as goal

-- the session is ready, and what the threads from here on lose is the whole of what all lose
abbrev pub invariant-loop-thread : goal.invariant-loop-thread
invariant-loop-thread g l = record {
  ready : IsReady l.self.session;
  rest : (reply : Response) (new : Server g.row.L.Denot) → LosesFrom l.rm l.thread (l.threads - l.thread) l.self reply new
      → LosesFrom l.rm 0 l.threads l.fn.self reply new;
}
