use Rattle.std.proofs.Common.{rules, ◌≡◌, ◌∙◌, None, sym}
use Rattle.std.specs.FinMap.{get}
use Rattle.sqlite.specs.Held.{state}
use Rattle.xa_log.specs.Content.{with_heuristic_record}
use Rattle.xa_sql_log.specs.Sql.{LacksHeuristic}
use Rattle.xa_sql_log.proofs.States.{opened_clean}
use Rattle.xa_sql_log.proofs.Inside.{once, told}
use Rattle.xa_sql_log.proofs.heuristics.note_heuristic.Goals as goal
use Rattle.xa_log.proofs.Parts.{no_some}

pub returns-clause-changes : goal.returns-clause-changes
returns-clause-changes g c =
    let b = c.args.b in
    let before = state g.S.Store c.args.conn.now in
    let looked = state g.S.Store c.find_heuristic.new.conn in
    let found = c.in_ok-find_heuristic.field-0 in
    let none : found ≡ None = no_some found (search rules) in
    once (LacksHeuristic b looked) (with_heuristic_record b c.args.how) before looked
    (state g.S.Store c.insert_heuristic.new.conn) c.find_heuristic.ensures.reads c.insert_heuristic.ensures.honest
    (λ order x held. sym (told (λ x. found ≡ get x.heuristics b) before looked (opened_clean _ _ (g.met.S.Store.shut_if_dirty c.find_heuristic.new.conn.store))
    c.in_ok-find_heuristic.ensures.ok order x held) ∙ none)
    c.insert_heuristic.ensures.changes
