use Rattle.std.proofs.Common.{◌≡◌, [], ◌∷◌}
use Rattle.sqlite.specs.Held.{state}
use Rattle.sqlite.specs.Values.{bound_value}
use Rattle.sqlite.specs.Value.{owned}
use Rattle.xa_sql_log.proofs.Contents.{gtrid_params, two_params}
use Rattle.xa_sql_log.proofs.DecisionDeletes.{deletes_inside}
use Rattle.xa_sql_log.proofs.removals.delete_decision.Goals as goal

pub returns-clause-taken : goal.returns-clause-taken
returns-clause-taken g c log inside clean =
    let given : bound_value (owned c.params-to_sql.result) ∷ bound_value (owned c.params-to_sql-2.result) ∷ [] ≡ gtrid_params c.args.g =
    rw (c.params-to_sql.ensures, c.params-to_sql-2.ensures, c.stored.ensures, c.stored-2.ensures) (two_params c.args.g c.requires) in
    deletes_inside c.args.g _ given (state g.S.Store c.args.tx.now.conn.now)
    (state g.S.Store c.execute.new.self.conn.now) c.in_ok-of_store.field-0 log
    (rw c.in_ok-of_store.ensures.ok at (c.execute.ensures.runs clean inside))
