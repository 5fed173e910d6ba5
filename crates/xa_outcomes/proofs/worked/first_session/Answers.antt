use Rattle.std.proofs.Common.{true}
use Rattle.xa_outcomes.proofs.worked.first_session.Goals as goal

pub returns-in-Ok-decide_it : goal.returns-in-Ok-decide_it
returns-in-Ok-decide_it g c =
    let made = c.in-Ok.ensures in
    record {
      first = c.in-Ok.server;
      last = c.decide_it.new.server;
      starts = record { stands = made.stands; old = made.old; started = made.started; over = made.over; holds = made.holds true };
      leaves = c.in-Ok-decide_it.ensures.left;
      log_is = c.into_log.ensures;
    }
