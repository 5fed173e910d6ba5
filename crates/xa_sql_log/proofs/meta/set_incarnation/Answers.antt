use Rattle.std.proofs.Common.{◌≡◌, [], ◌∷◌, pos}
use Rattle.sqlite.specs.Held.{state}
use Rattle.sqlite.specs.Values.{bound_value}
use Rattle.sqlite.specs.Value.{owned}
use Rattle.sqlite.specs.declared.types.Value.TheVariants.{Int}
use Rattle.xa_log.specs.Content.{with_incarnation}
use Rattle.xa_sql_log.proofs.Texts.{set_incarnation, set_incarnation_plain}
use Rattle.xa_sql_log.proofs.Contents.{one_param}
use Rattle.xa_sql_log.proofs.States.{opened_clean}
use Rattle.xa_sql_log.proofs.StatesAfter.{run_ok, run_changes}
use Rattle.xa_sql_log.proofs.MetaRows.{updates, update_commits}
use Rattle.xa_sql_log.proofs.meta.set_incarnation.Goals as goal

pub run-requires : goal.run-requires
run-requires g c = set_incarnation_plain

pub returns-clause-changes : goal.returns-clause-changes
returns-clause-changes g c =
    let new = c.run.new.conn in
    let n = c.args.incarnation in
    let given : bound_value (owned c.params-to_sql.result) ∷ [] ≡ Int (pos n) ∷ [] = rw (c.params-to_sql.ensures, c.stored.ensures) (one_param n c.requires) in
    run_changes g.S.Store set_incarnation _ (with_incarnation n) c.args.conn.now new (opened_clean _ _ (g.met.S.Store.shut_if_dirty new.store))
    (λ mid _ ready. updates n _ given mid ready (state g.S.Store new)) (λ mid _ ready. update_commits n _ given mid ready)
    c.run.result c.run.ensures.honest c.run.ensures.ran c.run.ensures.rests c.run.ensures.crash

pub returns-clause-ok : goal.returns-clause-ok
returns-clause-ok g c order clean =
    let new = c.run.new.conn in
    let n = c.args.incarnation in
    let given : bound_value (owned c.params-to_sql.result) ∷ [] ≡ Int (pos n) ∷ [] = rw (c.params-to_sql.ensures, c.stored.ensures) (one_param n c.requires) in
    run_ok g.S.Store set_incarnation _ (with_incarnation n) c.args.conn.now new (opened_clean _ _ (g.met.S.Store.shut_if_dirty new.store))
    (λ mid _ ready. updates n _ given mid ready (state g.S.Store new)) (λ mid _ ready. update_commits n _ given mid ready)
    c.run.result order (c.run.ensures.ran order clean)
