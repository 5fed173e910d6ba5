use Rattle.std.proofs.Common.{rules, ◌≡◌, [], ◌∷◌, arith, Some, None, slice_get}
use Rattle.sqlite.specs.Held.{state}
use Rattle.sqlite.specs.Values.{bound_value}
use Rattle.sqlite.specs.Value.{owned}
use Rattle.xa_sql_log.proofs.Texts.{find_heuristic_plain}
use Rattle.xa_sql_log.proofs.DecisionRows.{branch_params, four_params}
use Rattle.xa_sql_log.proofs.HeuristicReads.{found_end, found_no_end}
use Rattle.xa_sql_log.proofs.heuristics.find_heuristic.Goals as goal

pub ask-requires : goal.ask-requires
ask-requires g c = find_heuristic_plain

pub returns-in-Some-clause-ok : goal.returns-in-Some-clause-ok
returns-in-Some-clause-ok g c order clean =
    let told = c.in_ok-rows.ensures.shown order clean in
    let given : bound_value (owned c.params-to_sql.result) ∷ bound_value (owned c.params-to_sql-2.result)
    ∷ bound_value (owned c.params-to_sql-3.result) ∷ bound_value (owned c.params-to_sql-4.result) ∷ [] ≡ branch_params c.args.b =
    rw (
      c.params-to_sql.ensures,
      c.params-to_sql-2.ensures,
      c.params-to_sql-3.ensures,
      c.params-to_sql-4.ensures,
      c.stored.ensures,
      c.stored-2.ensures,
      c.from.ensures,
      c.from-2.ensures,
    ) (four_params c.args.b c.requires (omega arith) (omega arith)) in
    let first : slice_get c.in_ok-rows.rows.items 0 ≡ Some c.in-Some.row.now = search rules in
    found_end c.args.b _ given _ (state g.S.Store told.0) _ c.in_ok-rows.rows.items order told.1 told.2 told.3 c.in-Some.row.now c.in_ok-how-in-Some.field-0
    first c.in_ok-how-in-Some.ensures.ok

pub returns-clause-ok : goal.returns-clause-ok
returns-clause-ok g c order clean =
    let told = c.in_ok-rows.ensures.shown order clean in
    let given : bound_value (owned c.params-to_sql.result) ∷ bound_value (owned c.params-to_sql-2.result)
    ∷ bound_value (owned c.params-to_sql-3.result) ∷ bound_value (owned c.params-to_sql-4.result) ∷ [] ≡ branch_params c.args.b =
    rw (
      c.params-to_sql.ensures,
      c.params-to_sql-2.ensures,
      c.params-to_sql-3.ensures,
      c.params-to_sql-4.ensures,
      c.stored.ensures,
      c.stored-2.ensures,
      c.from.ensures,
      c.from-2.ensures,
    ) (four_params c.args.b c.requires (omega arith) (omega arith)) in
    let first : slice_get c.in_ok-rows.rows.items 0 ≡ None = search rules in
    found_no_end c.args.b _ given _ (state g.S.Store told.0) _ c.in_ok-rows.rows.items order told.1 told.2 told.3 first
