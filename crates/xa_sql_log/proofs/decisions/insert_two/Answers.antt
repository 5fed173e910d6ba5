use Rattle.std.proofs.Common.{◌≡◌, [], ◌∷◌, arith, subst, sym}
use Rattle.sqlite.specs.Held.{state}
use Rattle.sqlite.specs.Values.{bound_value}
use Rattle.sqlite.specs.Value.{owned}
use Rattle.xa_log.specs.Contract.{FitsRow}
use Rattle.xa_sql_log.proofs.DecisionRows.{both_params, eight_params, writes_two}
use Rattle.xa_sql_log.proofs.decisions.insert_two.Goals as goal

pub returns-clause-written : goal.returns-clause-written
returns-clause-written g c clean before has =
    let one = c.args.one in
    let other = c.args.other in
    let fits_other : FitsRow other.gtrid = subst FitsRow (sym c.requires.own) c.requires.fits in
    let given : bound_value (owned c.params-to_sql.result) ∷ bound_value (owned c.params-to_sql-2.result)
    ∷ bound_value (owned c.params-to_sql-3.result) ∷ bound_value (owned c.params-to_sql-4.result)
    ∷ bound_value (owned c.params-to_sql-5.result) ∷ bound_value (owned c.params-to_sql-6.result)
    ∷ bound_value (owned c.params-to_sql-7.result) ∷ bound_value (owned c.params-to_sql-8.result) ∷ [] ≡ both_params one other =
    rw (
      c.params-to_sql.ensures,
      c.params-to_sql-2.ensures,
      c.params-to_sql-3.ensures,
      c.params-to_sql-4.ensures,
      c.params-to_sql-5.ensures,
      c.params-to_sql-6.ensures,
      c.params-to_sql-7.ensures,
      c.params-to_sql-8.ensures,
      c.stored.ensures,
      c.stored-2.ensures,
      c.stored-3.ensures,
      c.stored-4.ensures,
      c.from.ensures,
      c.from-2.ensures,
      c.from-3.ensures,
      c.from-4.ensures,
    ) (eight_params one other c.requires.fits fits_other (omega arith) (omega arith) (omega arith) (omega arith)) in
    writes_two one other c.requires.own _ given (state g.S.Store c.args.tx.now.conn.now)
    (state g.S.Store c.execute.new.self.conn.now) c.in_ok-of_store.field-0 before has
    (rw c.in_ok-of_store.ensures.ok at (c.execute.ensures.runs clean has.inside))
