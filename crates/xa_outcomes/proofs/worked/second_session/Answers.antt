use Rattle.std.proofs.Common.{true}
use Rattle.xa_outcomes.proofs.worked.second_session.Goals as goal

pub returns-in-Ok-commit_one : goal.returns-in-Ok-commit_one
returns-in-Ok-commit_one g c =
    let made = c.in-Ok.ensures in
    record {
      first = c.in-Ok.server;
      starts = record { stands = made.stands; old = made.old; started = made.started; over = made.over; holds = made.holds true };
      commits = c.in-Ok-commit_one.ensures.made;
    }
