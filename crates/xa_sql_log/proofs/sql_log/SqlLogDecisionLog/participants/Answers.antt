use Rattle.std.proofs.Common.{rules}
use Rattle.sqlite.specs.Held.{state}
use Rattle.xa_sql_log.proofs.Lasting.{log_reads}
use Rattle.xa_sql_log.proofs.sql_log.SqlLogDecisionLog.participants.Goals as goal

pub returns-clause-reads : goal.returns-clause-reads
returns-clause-reads g c =
    log_reads (state g.S.Store c.args.self.now.conn) (state g.S.Store c.participants-list.new.conn) _ _ _ c.participants-list.ensures.reads
    (search rules) (search rules)
