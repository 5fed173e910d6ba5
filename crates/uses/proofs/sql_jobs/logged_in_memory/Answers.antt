use Rattle.xa_log.specs.Content.{nothing}
use Rattle.xa_log.proofs.Parts.{both_ok}
use Rattle.xa_sql_log.proofs.Closing.{ready_content}
use Rattle.uses.proofs.sql_jobs.logged_in_memory.Goals as goal

pub returns : goal.returns
returns g c =
    let log = c.in_ok-log.ensures in
    let ran = c.logged_over.ensures in
    both_ok c.logged_over.result _ _ _
    (λ o honest rows. rows log.order (c.memory_is_honest.ensures o.log) nothing (ready_content nothing _ log.empty)) ran.honest ran.rows
