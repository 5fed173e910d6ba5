use Rattle.std.proofs.Common.{true, Some, subst}
use Rattle.std.specs.Io.Buffered.{reader_remaining}
use Rattle.uses.proofs.Sessions.{known_left}
use Rattle.xa_server.specs.Replies.{greeting_of}
use Rattle.xa_server.specs.Serving.{Serves}
use Rattle.uses.proofs.serve.served_over.Goals as goal

pub returns-in-Ok-serve : goal.returns-in-Ok-serve
returns-in-Ok-serve g c =
    let made = c.in-Ok.ensures in
    let first = c.in-Ok.server in
    let last = c.serve.new.self in
    let written = c.serve.new.output.items in
    let left = reader_remaining (λ slice. Some slice.now) c.serve.new.input in
    let unread = known_left c.args.text.now left _ _ _ _ _ _
    (subst (λ whole. Serves g.L.DecisionLog.moment (greeting_of first) whole left (Some c.new-written.result.items) (Some written) first last)
    c.in_ok-unread.ensures c.in-Ok-serve.ensures.served) in
    record {
      first = first;
      last = last;
      unread = unread.0;
      starts = record { stands = made.stands; old = made.old; started = made.started; over = made.over; holds = made.holds true };
      serves =
          subst (λ before. Serves g.L.DecisionLog.moment (greeting_of first) (Some c.args.text.now) (Some unread.0) (Some before) (Some written)
          first last) c.new-written.ensures.items unread.1;
      log = c.into_log.ensures;
    }
