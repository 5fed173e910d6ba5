use Rattle.std.proofs.Common.{◌≡◌, ◌==◌, [], ◌∷◌, not}
use Rattle.std.specs.FinMap.{contains_key}
use Rattle.sqlite.specs.Held.{state}
use Rattle.sqlite.specs.Values.{bound_value}
use Rattle.sqlite.specs.Value.{owned}
use Rattle.xa_log.specs.Content.{without_decision}
use Rattle.xa_sql_log.proofs.Texts.{delete_decision, delete_decision_plain}
use Rattle.xa_sql_log.proofs.Contents.{gtrid_params, two_params}
use Rattle.xa_sql_log.proofs.States.{opened_clean, did_makes}
use Rattle.xa_sql_log.proofs.StatesAfter.{held_before, ran_however_many, run_makes, run_changes}
use Rattle.xa_sql_log.proofs.DecisionDeletes.{deletes, deletes_some, delete_commits}
use Rattle.xa_sql_log.proofs.decisions.done.Goals as goal

pub changed-requires : goal.changed-requires
changed-requires g c = delete_decision_plain

pub returns-in_err-rows-clause-changes : goal.returns-in_err-rows-clause-changes
returns-in_err-rows-clause-changes g c =
    let new = c.changed.new.conn in
    let given : bound_value (owned c.params-to_sql.result) ∷ bound_value (owned c.params-to_sql-2.result) ∷ [] ≡ gtrid_params c.args.g =
    rw (c.params-to_sql.ensures, c.params-to_sql-2.ensures, c.stored.ensures, c.stored-2.ensures) (two_params c.args.g c.requires) in
    run_changes g.S.Store delete_decision _ (without_decision c.args.g) c.args.conn.now new (opened_clean _ _ (g.met.S.Store.shut_if_dirty new.store))
    (λ mid _ ready. deletes c.args.g _ given mid ready (state g.S.Store new)) (λ mid _ ready. delete_commits c.args.g _ given mid ready)
    c.changed.result c.changed.ensures.honest
    (λ order clean. ran_however_many g.S.Store delete_decision _ c.args.conn.now new c.changed.result (c.changed.ensures.ran order clean))
    c.changed.ensures.rests c.changed.ensures.crash

pub returns-clause-changes : goal.returns-clause-changes
returns-clause-changes g c =
    let new = c.changed.new.conn in
    let given : bound_value (owned c.params-to_sql.result) ∷ bound_value (owned c.params-to_sql-2.result) ∷ [] ≡ gtrid_params c.args.g =
    rw (c.params-to_sql.ensures, c.params-to_sql-2.ensures, c.stored.ensures, c.stored-2.ensures) (two_params c.args.g c.requires) in
    run_changes g.S.Store delete_decision _ (without_decision c.args.g) c.args.conn.now new (opened_clean _ _ (g.met.S.Store.shut_if_dirty new.store))
    (λ mid _ ready. deletes c.args.g _ given mid ready (state g.S.Store new)) (λ mid _ ready. delete_commits c.args.g _ given mid ready)
    c.changed.result c.changed.ensures.honest
    (λ order clean. ran_however_many g.S.Store delete_decision _ c.args.conn.now new c.changed.result (c.changed.ensures.ran order clean))
    c.changed.ensures.rests c.changed.ensures.crash

pub returns-clause-ok : goal.returns-clause-ok
returns-clause-ok g c order clean =
    let new = c.changed.new.conn in
    let given : bound_value (owned c.params-to_sql.result) ∷ bound_value (owned c.params-to_sql-2.result) ∷ [] ≡ gtrid_params c.args.g =
    rw (c.params-to_sql.ensures, c.params-to_sql-2.ensures, c.stored.ensures, c.stored-2.ensures) (two_params c.args.g c.requires) in
    let ran = c.in_ok-rows.ensures.ran order clean in
    did_makes (without_decision c.args.g) _ _
    (run_makes g.S.Store delete_decision _ (without_decision c.args.g) c.args.conn.now new (opened_clean _ _ (g.met.S.Store.shut_if_dirty new.store))
    (λ mid _ ready. deletes c.args.g _ given mid ready (state g.S.Store new)) (λ mid _ ready. delete_commits c.args.g _ given mid ready)
    order (c.in_ok-rows.rows, ran))

pub returns-clause-answer : goal.returns-clause-answer
returns-clause-answer g c order clean =
    let new = c.changed.new.conn in
    let given : bound_value (owned c.params-to_sql.result) ∷ bound_value (owned c.params-to_sql-2.result) ∷ [] ≡ gtrid_params c.args.g =
    rw (c.params-to_sql.ensures, c.params-to_sql-2.ensures, c.stored.ensures, c.stored-2.ensures) (two_params c.args.g c.requires) in
    let ran = c.in_ok-rows.ensures.ran order clean in
    held_before _ (state g.S.Store ran.0) order ran.1 (λ content. not (c.in_ok-rows.rows == 0) ≡ contains_key content.decisions c.args.g)
    (λ ready. deletes_some c.args.g _ given (state g.S.Store ran.0) ready (state g.S.Store new) c.in_ok-rows.rows ran.2)
