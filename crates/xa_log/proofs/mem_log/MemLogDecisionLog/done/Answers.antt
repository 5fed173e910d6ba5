use Rattle.std.proofs.Common.{rules, subst, sym}
use Rattle.xa_log.specs.Content.{without_decision}
use Rattle.xa_log.specs.Memory.{IsInOrder, content_held}
use Rattle.xa_log.proofs.OwnBranches.{held_changes, order_without}
use Rattle.xa_log.proofs.mem_log.MemLogDecisionLog.done.Goals as goal

pub returns-clause-changes : goal.returns-clause-changes
returns-clause-changes c =
    held_changes (without_decision c.args.g) (content_held c.args.self.now) (content_held c.remove_decision.new.self) _ _ _ (search rules) (search rules)
    (λ order. subst IsInOrder (sym c.remove_decision.ensures.removed) (order_without (content_held c.args.self.now) c.args.g order))
    (search rules)
