use Rattle.std.proofs.Common.{true, Some, subst}
use Rattle.std.specs.Io.Buffered.{reader_remaining}
use Rattle.uses.proofs.PathProcesses.{session_so}
use Rattle.uses.proofs.TwoManagers.{known_left}
use Rattle.xa_server.specs.NamedLines.{ServesUnder}
use Rattle.xa_server.specs.Replies.{greeting_of}
use Rattle.uses.proofs.paths.session_over.Goals as goal

pub returns-in-Ok-serve_under : goal.returns-in-Ok-serve_under
returns-in-Ok-serve_under g c =
    let made = c.in-Ok.ensures in
    let first = c.in-Ok.server in
    let last = c.serve_under.new.self in
    let written = c.serve_under.new.output.items in
    let left = reader_remaining (λ slice. Some slice.now) c.serve_under.new.input in
    let unread = known_left c.args.text.now left _ _ _ _ _ _ _
    (subst (λ whole. ServesUnder g.L.DecisionLog.moment c.args.name.now (greeting_of first) whole left (Some c.new-written.result.items) (Some written)
    first last) c.in_ok-unread.ensures c.in-Ok-serve_under.ensures.served) in
    session_so g.L.DecisionLog.moment c.sessions_go_on.ensures.served c.args.name.now c.args.threads c.args.rms c.args.log c.into_log.result first last
    c.args.text.now unread.0 written
    (record { stands = made.stands; old = made.old; started = made.started; over = made.over; holds = made.holds true })
    (subst (λ before. ServesUnder g.L.DecisionLog.moment c.args.name.now (greeting_of first) (Some c.args.text.now) (Some unread.0) (Some before)
    (Some written) first last) c.new-written.ensures.items unread.1)
    c.into_log.ensures
