use Rattle.xa_tm.proofs.History.Finds.{found_is_allowed, found_is_there}
use Rattle.xa_tm.proofs.laws.restarts_find_what_is_there.Goals as goal

pub returns-clause-there : goal.returns-clause-there
returns-clause-there c = found_is_there

pub returns-clause-allowed : goal.returns-clause-allowed
returns-clause-allowed c = found_is_allowed
