use Rattle.xa_conduct.proofs.TurnLemmas.{ends}
use Rattle.xa_conduct.proofs.laws.transactions_end.Goals as goal

pub returns : goal.returns
returns c = ends
