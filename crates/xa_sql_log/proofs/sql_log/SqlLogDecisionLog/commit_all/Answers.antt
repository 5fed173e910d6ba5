use Rattle.std.proofs.Common.{rules}
use Rattle.sqlite.specs.Held.{state}
use Rattle.xa_log.specs.Content.{with_commits}
use Rattle.xa_sql_log.proofs.Lasting.{log_changes}
use Rattle.xa_sql_log.proofs.sql_log.SqlLogDecisionLog.commit_all.Goals as goal

pub returns-clause-changes : goal.returns-clause-changes
returns-clause-changes g c =
    log_changes (with_commits c.args.decisions.now) (state g.S.Store c.args.self.now.conn)
    (state g.S.Store c.commit_all-answers.new.conn) _ _ _ c.commit_all-answers.ensures.changes (search rules) (search rules)
