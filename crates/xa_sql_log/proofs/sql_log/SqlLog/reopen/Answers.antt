use Rattle.std.proofs.Common.{subst}
use Rattle.sqlite.specs.Held.{state}
use Rattle.xa_log.proofs.Parts.{if_ok}
use Rattle.xa_sql_log.specs.Sql.{IsReadyWith}
use Rattle.xa_sql_log.proofs.sql_log.SqlLog.reopen.Goals as goal

pub returns-clause-held : goal.returns-clause-held
returns-clause-held g c =
    if_ok c.adopt_or_close.result _ _
    (λ log taken content is clean.
    let all = taken clean in
    let ready = c.in_ok-reopen.ensures.opened content is all.honest in
    subst (λ x. IsReadyWith x (state g.S.Store log.conn)) ready.content (all.kept ready.ready.now.schema (λ _. ready.ready)))
    c.adopt_or_close.ensures.taken
