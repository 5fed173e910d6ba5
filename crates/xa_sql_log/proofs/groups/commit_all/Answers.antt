use Rattle.std.proofs.Common.{◌≡◌, ℕ, List, ◌∙◌, Some, replicate, sym, subst}
use Rattle.sqlite.specs.Held.{state}
use Rattle.xa_log.specs.Content.{Content, logged_each, with_commits}
use Rattle.xa_log.specs.declared.decision.Decision.{Decision}
use Rattle.xa_log.specs.declared.decision_log.Logged.{Logged}
use Rattle.xa_log.specs.declared.decision_log.Logged.TheVariants.{New}
use Rattle.xa_log.proofs.Parts.{if_ok, some_and}
use Rattle.xa_sql_log.specs.Sql.{AreThere, AreThereIn, content_in}
use Rattle.xa_sql_log.proofs.GroupedRows.{new_are_there}
use Rattle.xa_sql_log.proofs.Inside.{again, from_kept, kept_anyway}
use Rattle.xa_sql_log.proofs.States.{opened_clean}
use Rattle.xa_sql_log.proofs.groups.commit_all.Goals as goal
use Rattle.xa_base.proofs.Options.{on_ok}

none_named : (ds : List Decision) (answers items : List Logged) (k : ℕ) → answers ≡ items → items ≡ replicate k New → (x : Content) → AreThere ds answers x
none_named ds answers items k value is x = subst (λ l. AreThere ds l x) (sym (value ∙ is)) (new_are_there ds k x)

pub returns-in-Ok-clause-changes : goal.returns-in-Ok-clause-changes
returns-in-Ok-clause-changes g c =
    c.in-Ok.ensures.changes (λ x _. none_named c.args.decisions.now _ _ _ c.as_slice.ensures.value c.in_ok-answers.ensures.ok x)

pub returns-in-Ok-clause-ok : goal.returns-in-Ok-clause-ok
returns-in-Ok-clause-ok g c order clean =
    c.in-Ok.ensures.ok (λ x _. none_named c.args.decisions.now _ _ _ c.as_slice.ensures.value c.in_ok-answers.ensures.ok x) order clean

pub returns-in-Ok-clause-answer : goal.returns-in-Ok-clause-answer
returns-in-Ok-clause-answer g c order clean =
    some_and (content_in (state g.S.Store c.args.conn.now)) _ _ (λ x is. sym c.as_slice.ensures.value ∙ is)
    (c.in-Ok.ensures.told (λ x _. none_named c.args.decisions.now _ _ _ c.as_slice.ensures.value c.in_ok-answers.ensures.ok x) order clean)

pub returns-in-Err-Store-clause-changes : goal.returns-in-Err-Store-clause-changes
returns-in-Err-Store-clause-changes g c =
    let a = state g.S.Store c.args.conn.now in
    let b = state g.S.Store c.write_new.new.conn in
    let there : AreThereIn c.args.decisions.now c.as_slice.result.now a =
    λ x _. none_named c.args.decisions.now _ _ _ c.as_slice.ensures.value c.in_ok-answers.ensures.ok x in
    again (with_commits c.args.decisions.now) a b (state g.S.Store c.write_missing-in-Err-Store.new.conn) (c.in-Err-Store.ensures.changes there)
    (λ order. kept_anyway a b (opened_clean _ _ (g.met.S.Store.shut_if_dirty c.write_new.new.conn.store)) (c.in-Err-Store.ensures.kept there order))
    c.write_missing-in-Err-Store.ensures.changes

pub returns-in-Err-Store-clause-ok : goal.returns-in-Err-Store-clause-ok
returns-in-Err-Store-clause-ok g c order clean =
    let a = state g.S.Store c.args.conn.now in
    let b = state g.S.Store c.write_new.new.conn in
    let d = state g.S.Store c.write_missing-in-Err-Store.new.conn in
    let there : AreThereIn c.args.decisions.now c.as_slice.result.now a =
    λ x _. none_named c.args.decisions.now _ _ _ c.as_slice.ensures.value c.in_ok-answers.ensures.ok x in
    let early = c.write_missing-in-Err-Store.ensures.changes.honest clean in
    on_ok c.write_missing-in-Err-Store.result _ _
    (from_kept (λ x. content_in d ≡ Some (with_commits c.args.decisions.now x)) (content_in a) (content_in b) (c.in-Err-Store.ensures.kept there order early))
    (c.write_missing-in-Err-Store.ensures.ok ((c.in-Err-Store.ensures.changes there).order order) clean)

pub returns-in-Err-Store-clause-answer : goal.returns-in-Err-Store-clause-answer
returns-in-Err-Store-clause-answer g c order clean =
    let ds = c.args.decisions.now in
    let a = state g.S.Store c.args.conn.now in
    let b = state g.S.Store c.write_new.new.conn in
    let there : AreThereIn ds c.as_slice.result.now a = λ x _. none_named ds _ _ _ c.as_slice.ensures.value c.in_ok-answers.ensures.ok x in
    let early = c.write_missing-in-Err-Store.ensures.changes.honest clean in
    if_ok c.write_missing-in-Err-Store.result _ _
    (λ list told. from_kept (λ x. list.items ≡ logged_each ds x) (content_in a) (content_in b) (c.in-Err-Store.ensures.kept there order early) told)
    (c.write_missing-in-Err-Store.ensures.answer ((c.in-Err-Store.ensures.changes there).order order) clean)

pub returns-clause-changes : goal.returns-clause-changes
returns-clause-changes g c =
    c.in-Err.ensures.changes (λ x _. none_named c.args.decisions.now _ _ _ c.as_slice.ensures.value c.in_ok-answers.ensures.ok x)
