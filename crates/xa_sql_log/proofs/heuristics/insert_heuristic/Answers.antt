use Rattle.std.proofs.Common.{◌≡◌, [], ◌∷◌, arith}
use Rattle.sqlite.specs.Held.{state}
use Rattle.sqlite.specs.Values.{bound_value}
use Rattle.sqlite.specs.Value.{owned}
use Rattle.xa_log.specs.Content.{with_heuristic_record}
use Rattle.xa_sql_log.proofs.Texts.{insert_heuristic, insert_heuristic_plain}
use Rattle.xa_sql_log.proofs.StatesAfter.{held_there, run_ok, run_changes}
use Rattle.xa_sql_log.proofs.States.{opened_clean}
use Rattle.xa_sql_log.proofs.HeuristicRows.{end_params, five_params, records, record_commits}
use Rattle.xa_sql_log.proofs.heuristics.insert_heuristic.Goals as goal

pub run-requires : goal.run-requires
run-requires g c = insert_heuristic_plain

pub returns-clause-changes : goal.returns-clause-changes
returns-clause-changes g c lacks =
    let new = c.run.new.conn in
    let b = c.args.b in
    let how = c.args.how in
    let given : bound_value (owned c.params-to_sql.result) ∷ bound_value (owned c.params-to_sql-2.result)
    ∷ bound_value (owned c.params-to_sql-3.result) ∷ bound_value (owned c.params-to_sql-4.result)
    ∷ bound_value (owned c.params-to_sql-5.result) ∷ [] ≡ end_params b how =
    rw (
      c.params-to_sql.ensures,
      c.params-to_sql-2.ensures,
      c.params-to_sql-3.ensures,
      c.params-to_sql-4.ensures,
      c.params-to_sql-5.ensures,
      c.stored.ensures,
      c.stored-2.ensures,
      c.from.ensures,
      c.from-2.ensures,
      c.from-3.ensures,
      c.number.ensures,
    )
    (five_params b how c.requires (omega arith) (omega arith)) in
    run_changes g.S.Store insert_heuristic _ (with_heuristic_record b how) c.args.conn.now new (opened_clean _ _ (g.met.S.Store.shut_if_dirty new.store))
    (λ mid same ready. records b how c.requires _ given mid ready (lacks _ (held_there _ mid same)) (state g.S.Store new))
    (λ mid same ready. record_commits b how c.requires _ given mid ready (lacks _ (held_there _ mid same)))
    c.run.result c.run.ensures.honest c.run.ensures.ran c.run.ensures.rests c.run.ensures.crash

pub returns-clause-ok : goal.returns-clause-ok
returns-clause-ok g c lacks order clean =
    let new = c.run.new.conn in
    let b = c.args.b in
    let how = c.args.how in
    let given : bound_value (owned c.params-to_sql.result) ∷ bound_value (owned c.params-to_sql-2.result)
    ∷ bound_value (owned c.params-to_sql-3.result) ∷ bound_value (owned c.params-to_sql-4.result)
    ∷ bound_value (owned c.params-to_sql-5.result) ∷ [] ≡ end_params b how =
    rw (
      c.params-to_sql.ensures,
      c.params-to_sql-2.ensures,
      c.params-to_sql-3.ensures,
      c.params-to_sql-4.ensures,
      c.params-to_sql-5.ensures,
      c.stored.ensures,
      c.stored-2.ensures,
      c.from.ensures,
      c.from-2.ensures,
      c.from-3.ensures,
      c.number.ensures,
    )
    (five_params b how c.requires (omega arith) (omega arith)) in
    run_ok g.S.Store insert_heuristic _ (with_heuristic_record b how) c.args.conn.now new (opened_clean _ _ (g.met.S.Store.shut_if_dirty new.store))
    (λ mid same ready. records b how c.requires _ given mid ready (lacks _ (held_there _ mid same)) (state g.S.Store new))
    (λ mid same ready. record_commits b how c.requires _ given mid ready (lacks _ (held_there _ mid same)))
    c.run.result order (c.run.ensures.ran order clean)
