use Rattle.std.specs.Io.Buffered.{reader_remaining}
use Rattle.xa_server.proofs.SessionParts.{ServesSome}
use Rattle.xa_server.specs.Replies.{greeting_of}
use Rattle.xa_session.specs.Session.{IsReady}
use Rattle.xa_server.proofs.server.Server.serve_under.Given as goal

abbrev pub invariant-loop : goal.invariant-loop
invariant-loop g l = record {
  ready : IsReady l.self.session;
  some :
      ServesSome g.L.DecisionLog.moment l.fn.name (greeting_of l.fn.self) (reader_remaining g.R.Read.remaining l.fn.input)
      (reader_remaining g.R.Read.remaining l.input) (g.W.Write.contents l.fn.output) (g.W.Write.contents l.output) l.fn.self l.self;
}
