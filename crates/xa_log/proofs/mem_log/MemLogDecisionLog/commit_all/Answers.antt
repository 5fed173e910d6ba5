use Rattle.std.proofs.Common.{rules}
use Rattle.xa_log.specs.Content.{with_commits}
use Rattle.xa_log.specs.Memory.{content_held}
use Rattle.xa_log.proofs.Together.{order_after_commits}
use Rattle.xa_log.proofs.OwnBranches.{held_changes}
use Rattle.xa_log.proofs.mem_log.MemLogDecisionLog.commit_all.Goals as goal

pub returns-clause-changes : goal.returns-clause-changes
returns-clause-changes c =
    held_changes (with_commits c.args.decisions.now) (content_held c.args.self.now)
    (content_held c.put_all-answers.new.self) _ _ _ (search rules) (search rules)
    (order_after_commits c.put_all-answers.result (content_held c.args.self.now)
    (content_held c.put_all-answers.new.self) c.args.decisions.now c.requires.fits c.requires.own c.put_all-answers.ensures.ok
    c.put_all-answers.ensures.err)
    (search rules)
