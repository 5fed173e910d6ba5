use Rattle.uses.proofs.Decisions.{found_until_done}
use Rattle.uses.proofs.sql_log.found_until_done.Goals as goal

pub returns : goal.returns
returns g c order honest =
    let done_honest = c.in_ok-after.ensures.reads.honest honest in
    let seen_honest = c.in_ok-_was_there.ensures.changes.honest done_honest in
    let logged_honest = c.in_ok-before.ensures.reads.honest seen_honest in
    let logged_order = c.in_ok-_logged.ensures.changes.order order in
    let seen_order = c.in_ok-before.ensures.reads.order logged_order in
    found_until_done _ _ _ _ _ _ _ _
    (c.in_ok-_logged.ensures.changes.ok order logged_honest)
    (c.in_ok-before.ensures.answer logged_order seen_honest)
    (c.in_ok-before.ensures.reads.ok logged_order seen_honest)
    (c.in_ok-_was_there.ensures.changes.ok seen_order done_honest)
    (c.in_ok-after.ensures.answer (c.in_ok-_was_there.ensures.changes.order seen_order) honest)
