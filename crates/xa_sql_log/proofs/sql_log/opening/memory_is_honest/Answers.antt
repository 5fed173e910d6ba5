use Rattle.sqlite.proofs.Callers.{memory_is_clean}
use Rattle.xa_sql_log.proofs.sql_log.opening.memory_is_honest.Goals as goal

pub returns : goal.returns
returns c log = memory_is_clean log.conn
