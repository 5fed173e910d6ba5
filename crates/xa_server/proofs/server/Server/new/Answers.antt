use Rattle.xa_tm.specs.Calls.{book_in, log_in}
use Rattle.xa_server.proofs.OwedLemmas.{starts_greeting, starts_owing}
use Rattle.xa_server.proofs.server.Server.new.Goals as goal

pub returns-in-Ok-clause-owed : goal.returns-in-Ok-clause-owed
returns-in-Ok-clause-owed g c = λ order honest.
    let moment = g.L.DecisionLog.moment in
    let m = c.in-Ok.session.manager in
    let over = c.in-Ok.ensures.over in
    starts_owing (book_in m) c.args.threads c.args.rms (moment c.args.log).content (moment (log_in m)).content (over.raised order honest)
    (over.book order honest) c.in-Ok.ensures.started.old

pub returns-in-Ok-clause-greets : goal.returns-in-Ok-clause-greets
returns-in-Ok-clause-greets g c = λ order honest.
    let moment = g.L.DecisionLog.moment in
    let m = c.in-Ok.session.manager in
    let over = c.in-Ok.ensures.over in
    starts_greeting (book_in m) c.args.threads c.args.rms (moment c.args.log).content (moment (log_in m)).content (over.raised order honest)
    (over.book order honest)
