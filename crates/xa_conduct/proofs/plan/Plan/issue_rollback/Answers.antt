use Rattle.xa_conduct.proofs.BackingLemmas.{on_named}
use Rattle.xa_conduct.proofs.DecidedLemmas.{asked_last}
use Rattle.xa_conduct.specs.Backing.{asks_rollback}
use Rattle.xa_conduct.proofs.plan.Plan.issue_rollback.Goals as goal

pub returns-clause-asked : goal.returns-clause-asked
returns-clause-asked c =
    asked_last (asks_rollback c.args.branch) _ _ _ c.in_ok-issue.ensures.added (on_named c.args.branch c.name_of.result c.name_of.ensures.branch)
