use Rattle.std.proofs.Common.{rules}
use Rattle.sqlite.specs.Held.{state}
use Rattle.xa_log.specs.Content.{without_decision}
use Rattle.xa_sql_log.proofs.Lasting.{log_changes}
use Rattle.xa_sql_log.proofs.sql_log.SqlLogDecisionLog.done.Goals as goal

pub returns-clause-changes : goal.returns-clause-changes
returns-clause-changes g c =
    log_changes (without_decision c.args.g) (state g.S.Store c.args.self.now.conn)
    (state g.S.Store c.done-found.new.conn) _ _ _ c.done-found.ensures.changes (search rules) (search rules)
