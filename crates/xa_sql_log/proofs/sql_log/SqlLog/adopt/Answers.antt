use Rattle.std.proofs.Common.{inl, inr}
use Rattle.sqlite.specs.Held.{state}
use Rattle.xa_sql_log.proofs.Lasting.{ready_lasts}
use Rattle.xa_sql_log.proofs.States.{opened_clean}
use Rattle.xa_sql_log.proofs.sql_log.SqlLog.adopt.Goals as goal

pub returns-in-Ok-clause-order : goal.returns-in-Ok-clause-order
returns-in-Ok-clause-order g c known =
    let new = c.prepare.new.conn in
    let is = c.in-Ok.ensures.prepares in
    ready_lasts (state g.S.Store new) c.schema-tables.ensures.live (g.met.S.Store.settled new.store) (opened_clean _ _ (g.met.S.Store.shut_if_dirty new.store))
    (λ clean. elim known [
      | inl blank ↦ (_, (is clean).made blank)
      | inr (inl old) ↦ (_, (is clean).migrated old)
      | inr (inr log) ↦ (_, (is clean).kept log.now.schema (λ _. log))
    ])

pub returns-in-Ok-clause-order_found : goal.returns-in-Ok-clause-order_found
returns-in-Ok-clause-order_found g c found =
    let new = c.prepare.new.conn in
    ready_lasts (state g.S.Store new) c.schema-tables.ensures.live (g.met.S.Store.settled new.store) (opened_clean _ _ (g.met.S.Store.shut_if_dirty new.store))
    (λ clean. (_, (c.in-Ok.ensures.prepares clean).found found))
