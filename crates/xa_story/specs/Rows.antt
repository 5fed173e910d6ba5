-- Which transactions get rows, and which branches a row waits for.
use Rattle.std.specs.Prelude.{Bool, ◌&&◌, ◌||◌, not, List, filter, Option, Some, None}
use Rattle.std.specs.List.{list_any}
use Rattle.xa_base.specs.Branch.{branch_eq, gtrid_eq}
use Rattle.xa_base.specs.Xid.{Xid}
use Rattle.xa_base.specs.declared.branch.Branch.{Branch}
use Rattle.xa_base.specs.declared.branch.Gtrid.{Gtrid}
use Rattle.xa_base.specs.declared.step.Outcome.{Outcome}
use Rattle.xa_base.specs.declared.step.Outcome.TheVariants.{Commit, Rollback}
use Rattle.xa_base.specs.declared.step.Step.{Step}
use Rattle.xa_base.specs.declared.step.Step.TheVariants as Steps
use Rattle.xa_story.specs.declared.ledger.Ledger.{Ledger}

-- the transaction that a step decides, and how
abbrev pub decision_of : Step Xid → Option (Gtrid × Outcome)
decision_of (Steps.Decide g outcome) = Some (g, outcome)
decision_of (Steps.Settle g) = Some (g, Commit)
decision_of (Steps.Abandon g) = Some (g, Rollback)
decision_of step = None

-- no row waits for the branch any more: it has acknowledged, or has a record
abbrev pub counts_as_done : Ledger → Branch → Bool
counts_as_done l b = list_any (λ c. branch_eq c b) l.acknowledged.items || list_any (λ c. branch_eq c b) l.recorded.items

-- those that said yes to a transaction, except for the settled ones
abbrev pub waited_for : Ledger → Gtrid → List Branch
waited_for l g = filter (λ b. gtrid_eq b.gtrid g && not (counts_as_done l b)) l.participants.items
