use Rattle.std.proofs.Common.{List}
use Rattle.xa_requests.specs.declared.request.Request.{Request}
use Rattle.xa_server.specs.declared.server.Server.{Server}
use Rattle.xa_session.specs.Session.{IsReady}
use Rattle.xa_conduct.specs.Acting.{Acts, GoesOn}
use Rattle.xa_conduct.specs.BetweenLines.{RestsBetween}
use Rattle.xa_conduct.specs.Conducting.{Conducts}
use Rattle.xa_conduct.proofs.serving.serve.Given as goal

-- the session is ready, requests led here, what is noted rests on those that were done, and transactions are at rest
abbrev pub invariant-loop : goal.invariant-loop
invariant-loop g l = record {
  ready : IsReady l.conductor.server.session;
  acts : GoesOn g.L.DecisionLog.moment l.fn.server l.conductor.server;
  rests :
      (done : List Request) → (first : Server g.row.L.Denot) → Acts g.L.DecisionLog.moment done first l.fn.server
      → Conducts g.L.DecisionLog.moment first l.conductor;
  at_rest : RestsBetween g.L.DecisionLog.moment l.conductor;
}
