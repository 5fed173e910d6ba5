use Rattle.std.proofs.Common.{rules, ◌≡◌, ◌<◌, ◌≤◌, ◌∙◌, arith, length, map, ap}
use Rattle.std.proofs.lemmas.List.{take_all}
use Rattle.xa_base.proofs.BranchOrder.{gtrids_total, exact_gtrids}
use Rattle.xa_base.specs.Branch.{gtrid_cmp}
use Rattle.xa_sql_log.specs.Rows.{gtrid_from}
use Rattle.xa_log.specs.KeySet.{from_list}
use Rattle.xa_sql_log.proofs.SameEntries.{set_more, set_listed}
use Rattle.xa_sql_log.proofs.rows.gtrids.Goals as goal

pub loop-row-preserved : goal.loop-row-preserved
loop-row-preserved c =
    let rows = c.args.rows.items in
    let i = c.loop-row.row-index in
    let low : i < length rows = omega arith in
    let seen : c.deref-row-items.result.now ≡ rows = c.deref-row-items.ensures.value in (
      set_more gtrids_total exact_gtrids gtrid_from rows _ i c.row-item.result seen c.row-item.is low c.loop-row.gtrids c.insert.new.self c.in_ok-gtrid.field-0
          c.in_ok-gtrid.ensures.ok c.loop-row.invariant.0 c.in_ok-insert.ensures.updates,
      c.insert.ensures.ordered,
    )

pub returns-clause-ok : goal.returns-clause-ok
returns-clause-ok c =
    let rows = c.args.rows.items in
    let high : length rows ≤ c.loop-row.row-index = omega arith in
    let same : c.in_ok-collect.field-0.items ≡ c.loop-row.gtrids.keys = search rules in
    same ∙ set_listed gtrids_total exact_gtrids c.loop-row.gtrids (map gtrid_from rows) c.loop-row.invariant.1
    (c.loop-row.invariant.0 ∙ ap (λ all. from_list {R = gtrid_cmp} (map gtrid_from all)) (take_all c.loop-row.row-index rows high))
