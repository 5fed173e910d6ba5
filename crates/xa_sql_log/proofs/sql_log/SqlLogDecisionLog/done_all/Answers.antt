use Rattle.std.proofs.Common.{rules}
use Rattle.sqlite.specs.Held.{state}
use Rattle.xa_log.specs.Content.{without_decisions}
use Rattle.xa_sql_log.proofs.Lasting.{log_changes}
use Rattle.xa_sql_log.proofs.sql_log.SqlLogDecisionLog.done_all.Goals as goal

pub returns-clause-changes : goal.returns-clause-changes
returns-clause-changes g c =
    log_changes (without_decisions c.args.gtrids.now) (state g.S.Store c.args.self.now.conn)
    (state g.S.Store c.done_all-taken.new.conn) _ _ _ c.done_all-taken.ensures.changes (search rules) (search rules)
