use Rattle.std.proofs.Common.{◌≡◌, [], ◌∷◌}
use Rattle.sqlite.specs.Held.{state}
use Rattle.sqlite.specs.Values.{bound_value}
use Rattle.sqlite.specs.Value.{owned}
use Rattle.xa_sql_log.proofs.Texts.{find_participants_plain}
use Rattle.xa_log.proofs.Parts.{if_ok}
use Rattle.xa_sql_log.proofs.Contents.{gtrid_params, two_params}
use Rattle.xa_sql_log.proofs.ListedParticipants.{told_participants}
use Rattle.xa_sql_log.proofs.participants.participants.Goals as goal

pub ask-requires : goal.ask-requires
ask-requires g c = find_participants_plain

pub returns-clause-ok : goal.returns-clause-ok
returns-clause-ok g c order clean =
    let told = c.in_ok-rows.ensures.shown order clean in
    let given : bound_value (owned c.params-to_sql.result) ∷ bound_value (owned c.params-to_sql-2.result) ∷ [] ≡ gtrid_params c.args.g =
    rw (c.params-to_sql.ensures, c.params-to_sql-2.ensures, c.stored.ensures, c.stored-2.ensures) (two_params c.args.g c.requires) in
    if_ok c.listed.result _ _ (λ list is. told_participants c.args.g _ given _ (state g.S.Store told.0) _ c.in_ok-rows.rows.items order told.1 told.2 told.3
    list.items is) c.listed.ensures.ok
