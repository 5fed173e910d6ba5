use Rattle.sqlite.specs.Held.{state}
use Rattle.xa_sql_log.proofs.Texts.{all_heuristics_plain}
use Rattle.xa_log.proofs.Parts.{if_ok}
use Rattle.xa_sql_log.proofs.AllRows.{told_ends}
use Rattle.xa_sql_log.proofs.rows.all_heuristics.Goals as goal

pub ask-requires : goal.ask-requires
ask-requires g c = all_heuristics_plain

pub returns-clause-ok : goal.returns-clause-ok
returns-clause-ok g c order clean =
    let told = c.in_ok-ask.ensures.shown order clean in
    if_ok c.ends.result _ _ (λ list is. told_ends _ (state g.S.Store told.0) _ c.in_ok-ask.field-0.items order told.1 told.2 told.3 list.items
    is) c.ends.ensures.ok
