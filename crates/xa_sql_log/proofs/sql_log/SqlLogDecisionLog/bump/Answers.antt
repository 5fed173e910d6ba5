use Rattle.std.proofs.Common.{rules}
use Rattle.sqlite.specs.Held.{state}
use Rattle.xa_log.specs.Content.{with_bump}
use Rattle.xa_sql_log.proofs.Lasting.{log_changes}
use Rattle.xa_sql_log.proofs.sql_log.SqlLogDecisionLog.bump.Goals as goal

pub returns-clause-changes : goal.returns-clause-changes
returns-clause-changes g c =
    log_changes with_bump (state g.S.Store c.args.self.now.conn) (state g.S.Store c.bump-bumped.new.conn) _ _ _ c.bump-bumped.ensures.changes
    (search rules) (search rules)
