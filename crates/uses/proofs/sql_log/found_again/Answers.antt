use Rattle.xa_sql_log.proofs.Closing.{whole_holds}
use Rattle.uses.proofs.Decisions.{found_in_same}
use Rattle.uses.proofs.sql_log.found_again.Goals as goal

pub returns : goal.returns
returns g c holds honest =
    let log = c.in_ok-log.ensures in
    let made = c.in_ok-_logged.ensures in
    let closed = c.in-Ok.ensures in
    let again = c.in_ok-again.ensures in
    let looked = c.in_ok-found.ensures in
    let opened_honest = looked.reads.honest honest in
    let clean = again.honest opened_honest in
    let order = log.order holds in
    found_in_same _ _ _ _ _ _ (made.changes.ok order (closed.honest clean))
    (λ content is.
    let whole = closed.held (made.changes.order order) clean content is in
    (again.held content whole opened_honest, looked.answer (again.order (whole_holds content _ whole)) honest))
