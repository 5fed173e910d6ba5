use Rattle.std.proofs.Common.{take}
use Rattle.xa_session.specs.Session.{IsReady}
use Rattle.xa_conduct.specs.Acting.{GoesOn, GoesOnBy}
use Rattle.xa_conduct.proofs.asking.ask_all.Given as goal

-- the session is ready, and requests led here, of which all were done
abbrev pub invariant-loop-request : goal.invariant-loop-request
invariant-loop-request g l = record {
  ready : IsReady l.server.session;
  acts : GoesOn g.L.DecisionLog.moment l.fn.server l.server;
  done : GoesOnBy g.L.DecisionLog.moment (take l.request-index l.request-items) l.fn.server l.server;
}
