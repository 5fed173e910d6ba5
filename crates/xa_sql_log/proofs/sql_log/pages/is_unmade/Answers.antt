use Rattle.xa_sql_log.proofs.sql_log.pages.is_unmade.Goals as goal

pub returns-in-Ok-clause-found : goal.returns-in-Ok-clause-found
returns-in-Ok-clause-found g c clean = rw c.requires.size at (c.in-Ok.ensures.ok clean)
