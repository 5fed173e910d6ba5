use Rattle.xa_conduct.proofs.NotStuckLemmas.{over_in_time}
use Rattle.xa_conduct.proofs.laws.transactions_are_over.Goals as goal

pub returns : goal.returns
returns c = over_in_time
