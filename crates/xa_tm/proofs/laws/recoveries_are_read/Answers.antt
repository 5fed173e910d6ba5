use Rattle.xa_tm.proofs.History.Recovery.{recoveries_close_none, resolved_is, resolved_open_is}
use Rattle.xa_tm.proofs.laws.recoveries_are_read.Goals as goal

pub returns-clause-resolve : goal.returns-clause-resolve
returns-clause-resolve c = resolved_is

pub returns-clause-open : goal.returns-clause-open
returns-clause-open c = resolved_open_is

pub returns-clause-closes : goal.returns-clause-closes
returns-clause-closes c = recoveries_close_none
