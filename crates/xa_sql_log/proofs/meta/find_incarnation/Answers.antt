use Rattle.std.proofs.Common.{rules, ◌≡◌, Some, slice_get}
use Rattle.sqlite.specs.Held.{state}
use Rattle.xa_sql_log.proofs.Texts.{find_incarnation_plain}
use Rattle.xa_log.proofs.Parts.{if_ok}
use Rattle.xa_sql_log.proofs.MetaRows.{found_incarnation}
use Rattle.xa_sql_log.proofs.meta.find_incarnation.Goals as goal

pub ask-requires : goal.ask-requires
ask-requires g c = find_incarnation_plain

pub returns-in-Some-clause-ok : goal.returns-in-Some-clause-ok
returns-in-Some-clause-ok g c order clean =
    let told = c.in_ok-rows.ensures.shown order clean in
    let first : slice_get c.in_ok-rows.rows.items 0 ≡ Some c.in-Some.row.now = search rules in
    if_ok c.number.result _ _ (λ n number. found_incarnation _ (state g.S.Store told.0) _ c.in_ok-rows.rows.items c.in-Some.row.now n first number order told.1
    told.2 told.3) c.number.ensures.ok
