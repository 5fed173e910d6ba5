use Rattle.xa_tm.proofs.History.Recovery.{answer_asks, decision_asks}
use Rattle.xa_tm.proofs.laws.log_is_asked.Goals as goal

pub returns-clause-decide : goal.returns-clause-decide
returns-clause-decide c = decision_asks

pub returns-clause-hear : goal.returns-clause-hear
returns-clause-hear c = answer_asks
