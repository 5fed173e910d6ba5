use Rattle.std.proofs.Common.{◌≡◌}
use Rattle.xa_server.proofs.TurnLemmas.{HasReplied}
use Rattle.xa_session.specs.Session.{IsReady}
use Rattle.xa_server.proofs.server.Server.reply_in_turn.Given as goal

-- the session is ready, and what was asked for up to here is done, and so replied
abbrev pub invariant-loop-request : goal.invariant-loop-request
invariant-loop-request g l = record {
  ready : IsReady l.self.session;
  count : l.told.before ≡ l.request-index;
  replied : HasReplied g.L.DecisionLog.moment l.asked l.others l.request-index l.told l.fn.self l.self;
}
