use Rattle.sqlite.specs.Held.{state}
use Rattle.xa_sql_log.proofs.Lasting.{lasts_if_clean}
use Rattle.xa_sql_log.proofs.States.{opened_clean}
use Rattle.xa_sql_log.proofs.sql_log.SqlLog.adopt_or_close.Goals as goal

pub returns-in-Ok-clause-order : goal.returns-in-Ok-clause-order
returns-in-Ok-clause-order g c known =
    let new = c.in-Ok.log.conn in
    lasts_if_clean (state g.S.Store new) (opened_clean _ _ (g.met.S.Store.shut_if_dirty new.store))
    (λ clean. c.in-Ok.ensures.order (known (c.in-Ok.ensures.ok clean).honest))
