use Rattle.xa_sql_log.proofs.Migrates.{makes_participant}
use Rattle.xa_sql_log.proofs.tables.make_plain_tables.Goals as goal

pub returns-clause-makes : goal.returns-clause-makes
returns-clause-makes g c clean blank = c.make_tables.ensures.makes clean blank makes_participant

pub returns-clause-crash : goal.returns-clause-crash
returns-clause-crash g c blank = c.make_tables.ensures.crash blank makes_participant
