use Rattle.std.proofs.Common.{rules, subst, sym}
use Rattle.xa_log.specs.Content.{without_decisions}
use Rattle.xa_log.specs.Memory.{IsInOrder, content_held}
use Rattle.xa_log.proofs.OwnBranches.{held_changes}
use Rattle.xa_log.proofs.TakenTogether.{order_without_all}
use Rattle.xa_log.proofs.mem_log.MemLogDecisionLog.done_all.Goals as goal

pub returns-clause-changes : goal.returns-clause-changes
returns-clause-changes c =
    held_changes (without_decisions c.args.gtrids.now) (content_held c.args.self.now) (content_held c.remove_all.new.self) _ _ _ (search rules)
    (search rules)
    (λ order. subst IsInOrder (sym c.remove_all.ensures.removed) (order_without_all c.args.gtrids.now (content_held c.args.self.now) order))
    (search rules)
