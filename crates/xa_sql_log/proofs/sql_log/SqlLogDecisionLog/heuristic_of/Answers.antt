use Rattle.std.proofs.Common.{rules}
use Rattle.sqlite.specs.Held.{state}
use Rattle.xa_sql_log.proofs.Lasting.{log_reads}
use Rattle.xa_sql_log.proofs.sql_log.SqlLogDecisionLog.heuristic_of.Goals as goal

pub returns-clause-reads : goal.returns-clause-reads
returns-clause-reads g c =
    log_reads (state g.S.Store c.args.self.now.conn)
    (state g.S.Store c.find_heuristic-how.new.conn) _ _ _ c.find_heuristic-how.ensures.reads (search rules) (search rules)
