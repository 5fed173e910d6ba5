use Rattle.std.proofs.Common.{rules}
use Rattle.xa_log.specs.Content.{with_commit}
use Rattle.xa_log.specs.KeySet.{from_list}
use Rattle.xa_log.specs.Memory.{content_held}
use Rattle.xa_log.proofs.OwnBranches.{held_changes, order_after_commit}
use Rattle.xa_log.proofs.mem_log.MemLogDecisionLog.commit.Goals as goal

pub returns-clause-changes : goal.returns-clause-changes
returns-clause-changes c =
    held_changes (with_commit c.args.g (from_list c.args.participants.now)) (content_held c.args.self.now)
    (content_held c.put_decision-logged.new.self) _ _ _ (search rules) (search rules)
    (order_after_commit c.put_decision-logged.result (content_held c.args.self.now)
    (content_held c.put_decision-logged.new.self) c.args.g c.args.participants.now c.requires.fits c.requires.own c.put_decision-logged.ensures.ok
    c.put_decision-logged.ensures.err)
    (search rules)
