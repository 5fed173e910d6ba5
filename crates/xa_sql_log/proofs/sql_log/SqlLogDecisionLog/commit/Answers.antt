use Rattle.std.proofs.Common.{rules}
use Rattle.sqlite.specs.Held.{state}
use Rattle.xa_log.specs.Content.{with_commit}
use Rattle.xa_log.specs.KeySet.{from_list}
use Rattle.xa_sql_log.proofs.Lasting.{log_changes}
use Rattle.xa_sql_log.proofs.sql_log.SqlLogDecisionLog.commit.Goals as goal

pub returns-clause-changes : goal.returns-clause-changes
returns-clause-changes g c =
    log_changes (with_commit c.args.g (from_list c.args.participants.now)) (state g.S.Store c.args.self.now.conn)
    (state g.S.Store c.commit-logged.new.conn) _ _ _ c.commit-logged.ensures.changes (search rules) (search rules)
