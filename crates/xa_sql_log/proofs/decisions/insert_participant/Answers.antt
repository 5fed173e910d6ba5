use Rattle.std.proofs.Common.{◌≡◌, [], ◌∷◌, arith}
use Rattle.sqlite.specs.Held.{state}
use Rattle.sqlite.specs.Values.{bound_value}
use Rattle.sqlite.specs.Value.{owned}
use Rattle.xa_sql_log.proofs.DecisionRows.{branch_params, four_params, writes_participant}
use Rattle.xa_sql_log.proofs.decisions.insert_participant.Goals as goal

pub returns-clause-written : goal.returns-clause-written
returns-clause-written g c clean set before has =
    let b = c.args.branch in
    let given : bound_value (owned c.params-to_sql.result) ∷ bound_value (owned c.params-to_sql-2.result)
    ∷ bound_value (owned c.params-to_sql-3.result) ∷ bound_value (owned c.params-to_sql-4.result) ∷ [] ≡ branch_params b =
    rw (
      c.params-to_sql.ensures,
      c.params-to_sql-2.ensures,
      c.params-to_sql-3.ensures,
      c.params-to_sql-4.ensures,
      c.stored.ensures,
      c.stored-2.ensures,
      c.from.ensures,
      c.from-2.ensures,
    ) (four_params b c.requires (omega arith) (omega arith)) in
    writes_participant b _ given (state g.S.Store c.args.tx.now.conn.now)
    (state g.S.Store c.execute.new.self.conn.now) c.in_ok-of_store.field-0 set before has
    (rw c.in_ok-of_store.ensures.ok at (c.execute.ensures.runs clean has.inside))
