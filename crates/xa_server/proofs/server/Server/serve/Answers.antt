use Rattle.std.proofs.Common.{[], OnErr, OnOk, subst}
use Rattle.std.specs.Io.Buffered.{reader_remaining}
use Rattle.xa_base.proofs.Options.{on_ok}
use Rattle.xa_server.proofs.WithoutName.{breaks_as_is, fails_as_is, on_err_as, serves_as_is}
use Rattle.xa_server.specs.NamedLines.{BreaksSessionUnder, InputFailsUnder, ServesUnder}
use Rattle.xa_server.specs.Replies.{greeting_of}
use Rattle.xa_server.specs.Serving.{BreaksSession, Serves}
use Rattle.xa_server.proofs.server.Server.serve.Goals as goal

pub returns : goal.returns
returns g c =
    let moment = g.L.DecisionLog.moment in
    let contents = g.W.Write.contents in
    let left = reader_remaining g.R.Read.remaining in
    let s = c.args.self.now in
    let law = c.without_a_name_nothing_changes.ensures.lines in
    let result = c.serve_under.result in
    let new = c.serve_under.new in
    let greeting = greeting_of s in
    let unread = left c.args.input.now in
    let rest = left new.input in
    let written = contents c.args.output.now in
    let all = contents new.output in
    record {
      ready = c.serve_under.ensures.ready;
      served = on_ok result (ServesUnder moment [] greeting unread rest written all s new.self)
          (Serves moment greeting unread rest written all s new.self) (serves_as_is law moment greeting unread rest written all s new.self)
          (subst (λ n. OnOk result (ServesUnder moment n greeting unread rest written all s new.self)) c.none.ensures c.serve_under.ensures.served);
      broken = on_err_as result (BreaksSessionUnder moment [] greeting unread written all s new.self)
          (BreaksSession moment greeting unread written all s new.self) (breaks_as_is law moment greeting unread written all s new.self)
          (subst (λ n. OnErr result (BreaksSessionUnder moment n greeting unread written all s new.self)) c.none.ensures c.serve_under.ensures.broken);
      input = λ fault. fails_as_is law moment greeting unread rest written all s new.self
          (subst (λ n. InputFailsUnder moment n greeting unread rest written all s new.self) c.none.ensures (c.serve_under.ensures.input fault));
    }
