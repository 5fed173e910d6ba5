use Rattle.xa_sql_log.proofs.Closing.{whole_holds}
use Rattle.uses.proofs.sql_jobs.logged_in_files.Goals as goal
use Rattle.xa_log.proofs.Parts.{both_ok}

pub returns : goal.returns
returns g c =
    let log = c.in_ok-log.ensures in
    let ran = c.logged_over.ensures in
    both_ok c.logged_over.result _ _ _
    (λ o honest rows now_honest before whole.
    rows (log.order (whole_holds before _ whole)) now_honest before (log.held before whole (honest now_honest))) ran.honest ran.rows
