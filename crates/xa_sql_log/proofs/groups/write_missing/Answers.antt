use Rattle.std.proofs.Common.{◌≡◌, false, ap, sym, ◌∙◌}
use Rattle.std.specs.List.{list_any}
use Rattle.sqlite.specs.Held.{state}
use Rattle.xa_log.specs.Content.{is_new, logged_each, with_commits}
use Rattle.xa_sql_log.specs.Sql.{AreThereIn}
use Rattle.xa_sql_log.proofs.GroupedRows.{nothing_made, right_are_there}
use Rattle.xa_sql_log.proofs.Inside.{once, told}
use Rattle.xa_sql_log.proofs.States.{opened_clean}
use Rattle.xa_sql_log.proofs.groups.write_missing.Goals as goal

pub returns-then-not-is_any_new-clause-ok : goal.returns-then-not-is_any_new-clause-ok
returns-then-not-is_any_new-clause-ok g c order clean =
    let none : false ≡ list_any is_new c.in_ok-answers.answers.items =
    sym c.if-not-is_any_new.true ∙ c.is_any_new.ensures ∙ ap (list_any is_new) c.as_slice.ensures.value in
    nothing_made c.args.decisions.now c.in_ok-answers.answers.items _ _ none (c.in_ok-answers.ensures.ok order clean)

pub returns-in_err-write_new-clause-changes : goal.returns-in_err-write_new-clause-changes
returns-in_err-write_new-clause-changes g c =
    let ds = c.args.decisions.now in
    let answers = c.in_ok-answers.answers.items in
    let a = state g.S.Store c.args.conn.now in
    let b = state g.S.Store c.find_each.new.conn in
    once (AreThereIn ds answers b) (with_commits ds) a b (state g.S.Store c.write_new.new.conn) c.find_each.ensures.reads c.write_new.ensures.honest
    (λ order x is. right_are_there ds answers x
    (told (λ y. answers ≡ logged_each ds y) a b (opened_clean _ _ (g.met.S.Store.shut_if_dirty c.find_each.new.conn.store)) c.in_ok-answers.ensures.ok
    order x is))
    (rw c.as_slice-2.ensures.value at c.write_new.ensures.changes)

pub returns-clause-changes : goal.returns-clause-changes
returns-clause-changes g c =
    let ds = c.args.decisions.now in
    let answers = c.in_ok-answers.answers.items in
    let a = state g.S.Store c.args.conn.now in
    let b = state g.S.Store c.find_each.new.conn in
    once (AreThereIn ds answers b) (with_commits ds) a b (state g.S.Store c.write_new.new.conn) c.find_each.ensures.reads c.write_new.ensures.honest
    (λ order x is. right_are_there ds answers x
    (told (λ y. answers ≡ logged_each ds y) a b (opened_clean _ _ (g.met.S.Store.shut_if_dirty c.find_each.new.conn.store)) c.in_ok-answers.ensures.ok
    order x is))
    (rw c.as_slice-2.ensures.value at c.write_new.ensures.changes)
