use Rattle.std.proofs.Common.{◌≡◌}
use Rattle.xa_session.specs.Session.{IsReady}
use Rattle.xa_conduct.specs.Acting.{GoesOn}
use Rattle.xa_conduct.proofs.conductor.find_rows.Given as goal

-- the session is ready, requests led here, and no transaction moved
abbrev pub invariant-loop-rm : goal.invariant-loop-rm
invariant-loop-rm g l = record {
  ready : IsReady l.server.session;
  acts : GoesOn g.L.DecisionLog.moment l.fn.server l.server;
  kept : l.notes.transactions ≡ l.fn.notes.transactions;
}
