use Rattle.xa_conduct.proofs.NotStuckLemmas.{not_stuck}
use Rattle.xa_conduct.proofs.laws.transactions_are_not_stuck.Goals as goal

pub returns-clause-each : goal.returns-clause-each
returns-clause-each g c = not_stuck

pub returns-clause-conducted : goal.returns-clause-conducted
returns-clause-conducted g c = λ conductor rests going i d within begun. not_stuck _ (rests going i d within) begun
