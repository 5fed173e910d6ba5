use Rattle.std.proofs.Common.{rules, ◌≡◌, ◌<◌, ◌≤◌, ◌∙◌, arith, length, map, reverse, ap}
use Rattle.std.proofs.lemmas.List.{take_all}
use Rattle.std.specs.FinMap.{from_entries}
use Rattle.xa_base.proofs.BranchOrder.{branches_total, exact_branches}
use Rattle.xa_base.specs.Branch.{branch_cmp}
use Rattle.xa_sql_log.specs.Rows.{heuristic_from}
use Rattle.xa_sql_log.proofs.HeuristicReads.{entry_read}
use Rattle.xa_sql_log.proofs.SameEntries.{map_more, map_listed}
use Rattle.xa_sql_log.proofs.rows.ends.Goals as goal

pub loop-row-preserved : goal.loop-row-preserved
loop-row-preserved c =
    let rows = c.args.rows.items in
    let i = c.loop-row.row-index in
    let low : i < length rows = omega arith in
    let seen : c.deref-row-items.result.now ≡ rows = c.deref-row-items.ensures.value in
    let says = entry_read c.row-item.result c.in_ok-branch.field-0 c.in_ok-how.field-0 c.in_ok-branch.ensures.ok c.in_ok-how.ensures.ok in (
      map_more branches_total exact_branches heuristic_from rows _ i c.row-item.result seen c.row-item.is low c.loop-row.ends c.insert.new.self
          c.in_ok-branch.field-0 c.in_ok-how.field-0 says c.loop-row.invariant.0 c.in_ok-insert.ensures.updates.0,
      c.insert.ensures.ordered,
    )

pub returns-clause-ok : goal.returns-clause-ok
returns-clause-ok c =
    let rows = c.args.rows.items in
    let high : length rows ≤ c.loop-row.row-index = omega arith in
    let same : c.in_ok-collect.field-0.items ≡ c.loop-row.ends.entries = search rules in
    same ∙ map_listed branches_total exact_branches c.loop-row.ends (reverse (map heuristic_from rows)) c.loop-row.invariant.1
    (c.loop-row.invariant.0 ∙ ap (λ all. from_entries {R = branch_cmp} (reverse (map heuristic_from all))) (take_all c.loop-row.row-index rows high))
