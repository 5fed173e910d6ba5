use Rattle.xa_jobs.proofs.ListedLemmas.{each_is_read, first_is_faulty}
use Rattle.xa_jobs.proofs.laws.tables_are_read_in_turn.Goals as goal

pub returns-clause-each_is_read : goal.returns-clause-each_is_read
returns-clause-each_is_read c = each_is_read

pub returns-clause-first_is_faulty : goal.returns-clause-first_is_faulty
returns-clause-first_is_faulty c = first_is_faulty
