use Rattle.std.proofs.Common.{true}
use Rattle.uses.proofs.Sessions.{is_served_whole}
use Rattle.uses.proofs.serve.served.Goals as goal

pub returns-in-Ok-serve : goal.returns-in-Ok-serve
returns-in-Ok-serve c =
    let made = c.in-Ok.ensures in
    is_served_whole _ c.args.threads c.args.rms c.new-log.result c.in-Ok.server c.serve.new.self c.args.text.now _ _ c.new-written.result.items
    c.serve.new.output.items (record { stands = made.stands; old = made.old; started = made.started; over = made.over; holds = made.holds true })
    c.new-log.ensures.order tt c.new-log.ensures.empty c.new-written.ensures.items c.in_ok-unread.ensures c.in-Ok-serve.ensures.served
    c.served_databases_agree.ensures.agree
