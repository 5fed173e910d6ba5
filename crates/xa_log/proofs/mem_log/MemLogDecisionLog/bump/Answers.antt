use Rattle.std.proofs.Common.{rules}
use Rattle.xa_log.proofs.OwnBranches.{bump_held}
use Rattle.xa_log.proofs.mem_log.MemLogDecisionLog.bump.Goals as goal

pub returns-clause-changes : goal.returns-clause-changes
returns-clause-changes c =
    bump_held c.args.self.now c.raise-raised.new.self _ _ c.raise-raised.result _
    (search rules) c.raise-raised.ensures.ok c.raise-raised.ensures.err (search rules)
