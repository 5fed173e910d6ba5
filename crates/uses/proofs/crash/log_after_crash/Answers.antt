use Rattle.sqlite.specs.Held.{state}
use Rattle.xa_sql_log.proofs.Lasting.{lasts_if_clean}
use Rattle.xa_sql_log.proofs.States.{opened_clean}
use Rattle.uses.proofs.Crashes.{content_left, found_log}
use Rattle.uses.proofs.crash.log_after_crash.Goals as goal

pub returns-in-Ok-adopt-clause-order : goal.returns-in-Ok-adopt-clause-order
returns-in-Ok-adopt-clause-order g c lasts =
    let left = c.in-Ok-adopt.left.conn in
    let taken = c.in-Ok-adopt.ensures in
    let again = c.in-Ok.ensures in
    lasts_if_clean (state g.S.Store left) (opened_clean _ _ (g.met.S.Store.shut_if_dirty left.store))
    (λ clean. taken.order_found (found_log g.S.Store c.args.log.conn c.into_connection.result c.in-Ok.conn c.into_connection.ensures
    lasts again.honest again.opens again.found (taken.ok clean).honest))

pub returns-in-Ok-adopt-clause-leaves : goal.returns-in-Ok-adopt-clause-leaves
returns-in-Ok-adopt-clause-leaves g c lasts clean =
    let taken = c.in-Ok-adopt.ensures in
    let again = c.in-Ok.ensures in
    let now = (taken.ok clean).honest in
    content_left g.S.Store c.args.log.conn c.into_connection.result c.in-Ok.conn c.into_connection.ensures (state g.S.Store c.in-Ok-adopt.left.conn)
    (again.found now)
    ((taken.ok clean).found (found_log g.S.Store c.args.log.conn c.into_connection.result c.in-Ok.conn c.into_connection.ensures lasts again.honest
    again.opens again.found now))
