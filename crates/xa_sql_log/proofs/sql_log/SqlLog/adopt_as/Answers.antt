use Rattle.std.proofs.Common.{Ok, ap, subst}
use Rattle.sqlite.specs.Held.{state}
use Rattle.xa_log.proofs.Parts.{if_ok}
use Rattle.xa_sql_log.proofs.HeldContents.{known_labelled, stays_nothing}
use Rattle.xa_sql_log.specs.PreparedDatabase.{Prepares}
use Rattle.xa_sql_log.proofs.sql_log.SqlLog.adopt_as.Goals as goal

pub returns-clause-honest : goal.returns-clause-honest
returns-clause-honest g c =
    if_ok c.adopt_or_close.result _ _ (λ log taken clean. c.in_ok-conn.ensures.honest (taken clean).honest) c.adopt_or_close.ensures.taken

pub returns-clause-kept : goal.returns-clause-kept
returns-clause-kept g c =
    if_ok c.adopt_or_close.result _ _
    (λ log taken clean has.
    subst (λ conn. Prepares (state g.S.Store conn) (state g.S.Store log.conn) (Ok tt)) (c.in_ok-conn.ensures.kept has) (taken clean))
    c.adopt_or_close.ensures.taken

pub returns-clause-made : goal.returns-clause-made
returns-clause-made g c =
    if_ok c.adopt_or_close.result _ _
    (λ log taken named clean blank makes.
    stays_nothing _ _ (c.in_ok-conn.ensures.made named (taken clean).honest blank makes) (taken clean))
    c.adopt_or_close.ensures.taken

pub returns-clause-order : goal.returns-clause-order
returns-clause-order g c =
    let labels = c.in_ok-conn.ensures in
    if_ok c.adopt_or_close.result _ _
    (λ log lasts before. lasts (λ early.
    let was = before (labels.honest early) in
    known_labelled c.args.label.now _ _ (λ has. ap (state g.S.Store) (labels.kept has))
    (λ named blank. labels.made named early blank (was.1 named blank)) was.0))
    c.adopt_or_close.ensures.order
