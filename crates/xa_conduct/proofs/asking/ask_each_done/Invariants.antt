use Rattle.xa_session.specs.Session.{IsReady}
use Rattle.xa_conduct.specs.Acting.{GoesOn}
use Rattle.xa_conduct.proofs.asking.ask_each_done.Given as goal

-- the session is ready, and requests led here
abbrev pub invariant-loop-gtrid : goal.invariant-loop-gtrid
invariant-loop-gtrid g l = IsReady l.server.session × GoesOn g.L.DecisionLog.moment l.fn.server l.server
