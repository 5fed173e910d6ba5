use Rattle.std.proofs.Common.{rules}
use Rattle.sqlite.specs.Held.{state}
use Rattle.xa_log.specs.Content.{with_heuristic_record}
use Rattle.xa_sql_log.proofs.Lasting.{log_changes}
use Rattle.xa_sql_log.proofs.sql_log.SqlLogDecisionLog.note_heuristic.Goals as goal

pub returns-clause-changes : goal.returns-clause-changes
returns-clause-changes g c =
    log_changes (with_heuristic_record c.args.b c.args.how) (state g.S.Store c.args.self.now.conn)
    (state g.S.Store c.note_heuristic-noted.new.conn) _ _ _ c.note_heuristic-noted.ensures.changes (search rules) (search rules)
