use Rattle.std.proofs.Common.{rules, ◌≡◌, ◌<◌, ◌≤◌, ◌∙◌, arith, length, map, ap}
use Rattle.std.proofs.lemmas.List.{take_all}
use Rattle.xa_base.proofs.BranchOrder.{branches_total, exact_branches}
use Rattle.xa_base.specs.Branch.{branch_cmp}
use Rattle.xa_sql_log.specs.Rows.{participant_from}
use Rattle.xa_log.specs.KeySet.{from_list}
use Rattle.xa_sql_log.proofs.SameEntries.{set_more, set_listed}
use Rattle.xa_sql_log.proofs.participants.listed.Goals as goal

pub loop-row-preserved : goal.loop-row-preserved
loop-row-preserved c =
    let rows = c.args.rows.items in
    let i = c.loop-row.row-index in
    let low : i < length rows = omega arith in
    let seen : c.deref-row-items.result.now ≡ rows = c.deref-row-items.ensures.value in (
      set_more branches_total exact_branches
          (participant_from c.args.g) rows _ i c.row-item.result seen c.row-item.is low c.loop-row.branches c.insert.new.self c.in_ok-participant.field-0
          c.in_ok-participant.ensures.ok c.loop-row.invariant.0 c.in_ok-insert.ensures.updates,
      c.insert.ensures.ordered,
    )

pub returns-clause-ok : goal.returns-clause-ok
returns-clause-ok c =
    let rows = c.args.rows.items in
    let i = c.loop-row.row-index in
    let high : length rows ≤ i = omega arith in
    let same : c.in_ok-collect.field-0.items ≡ c.loop-row.branches.keys = search rules in
    same ∙ set_listed branches_total exact_branches c.loop-row.branches (map (participant_from c.args.g) rows) c.loop-row.invariant.1
    (c.loop-row.invariant.0 ∙ ap (λ all. from_list {R = branch_cmp} (map (participant_from c.args.g) all)) (take_all i rows high))
