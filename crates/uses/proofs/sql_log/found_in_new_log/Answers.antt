use Rattle.uses.proofs.sql_log.found_in_new_log.Goals as goal

pub returns : goal.returns
returns c = c.found_until_done.ensures c.in_ok-log.ensures.order (c.memory_is_honest.ensures c.found_until_done.new.log)
