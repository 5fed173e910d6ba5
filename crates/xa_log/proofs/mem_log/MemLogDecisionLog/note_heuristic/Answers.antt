use Rattle.std.proofs.Common.{rules}
use Rattle.xa_log.specs.Content.{with_heuristic_record}
use Rattle.xa_log.specs.Memory.{content_held}
use Rattle.xa_log.proofs.OwnBranches.{held_changes, order_after_note}
use Rattle.xa_log.proofs.mem_log.MemLogDecisionLog.note_heuristic.Goals as goal

pub returns-clause-changes : goal.returns-clause-changes
returns-clause-changes c =
    held_changes (with_heuristic_record c.args.b c.args.how) (content_held c.args.self.now) (content_held c.put_heuristic-noted.new.self) _ _ _ (search rules)
    (search rules)
    (order_after_note c.put_heuristic-noted.result (content_held c.args.self.now)
    (content_held c.put_heuristic-noted.new.self) c.args.b c.args.how c.requires c.put_heuristic-noted.ensures.ok c.put_heuristic-noted.ensures.err)
    (search rules)
