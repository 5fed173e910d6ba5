use Rattle.xa_conduct.proofs.BackingLemmas.{loses_itself}
use Rattle.xa_conduct.proofs.DecidedLemmas.{asked_last}
use Rattle.xa_conduct.specs.Backing.{loses}
use Rattle.xa_conduct.proofs.plan.Plan.lose.Goals as goal

pub returns-clause-asked : goal.returns-clause-asked
returns-clause-asked c = asked_last (loses c.args.branch) _ _ _ c.in_ok-add.ensures.added (loses_itself c.args.branch)
