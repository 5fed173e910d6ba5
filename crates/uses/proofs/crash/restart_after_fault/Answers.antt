use Rattle.std.proofs.Common.{subst, sym}
use Rattle.std.proofs.lemmas.Result.{IfErr-weaker}
use Rattle.xa_sql_log.specs.contracts.sql_log.SqlLogDecisionLog.TheImpl as sql_log
use Rattle.uses.proofs.Results.{for_some, from_both_err}
use Rattle.uses.proofs.crash.restart_after_fault.Goals as goal
use Rattle.xa_log.proofs.Parts.{both_ok}

pub returns-clause-given : goal.returns-clause-given
returns-clause-given g c order =
    let logs = sql_log.ghosts g.row.S g.S.Alter g.S.Alter-dict g.S.Store g.S.Store-dict in
    let made = c.in_ok-system.ensures in
    let ran = c.run-ran.ensures in
    let went_on = c.restart_after_crash-went_on.ensures in
    let first_order = subst (λ l. (logs.moment l).is_in_order) (sym made.log.handed) order in
    let old_order = subst (λ l. (logs.moment l).is_in_order) (sym ran.log.handed) first_order in
    both_ok c.restart_after_crash-went_on.result _ _ _
    (λ it given back. from_both_err it _ _ _
    (λ e refused was honest.
    let now = was honest in
    let began = ran.log.honest now in
    refused old_order (ran.log.crash first_order now (made.log.near order began) (made.log.crash order began)) honest) given back) went_on.given went_on.back

pub returns-clause-restarted : goal.returns-clause-restarted
returns-clause-restarted g c order =
    let logs = sql_log.ghosts g.row.S g.S.Alter g.S.Alter-dict g.S.Store g.S.Store-dict in
    let made = c.in_ok-system.ensures in
    let ran = c.run-ran.ensures in
    let went_on = c.restart_after_crash-went_on.ensures in
    let first_order = subst (λ l. (logs.moment l).is_in_order) (sym made.log.handed) order in
    let old_order = subst (λ l. (logs.moment l).is_in_order) (sym ran.log.handed) first_order in
    both_ok c.restart_after_crash-went_on.result _ _ _
    (λ it restarted back. both_ok it _ _ _
    (λ reply accepted was honest count.
    let now = was honest in
    let began = ran.log.honest now in
    accepted old_order (ran.log.crash first_order now (made.log.near order began) (made.log.crash order began)) honest count) restarted back)
    went_on.restarted went_on.honest

pub returns-clause-accepted : goal.returns-clause-accepted
returns-clause-accepted g c order =
    let logs = sql_log.ghosts g.row.S g.S.Alter g.S.Alter-dict g.S.Store g.S.Store-dict in
    let first_order = subst (λ l. (logs.moment l).is_in_order) (sym c.in_ok-system.ensures.log.handed) order in
    let old_order = subst (λ l. (logs.moment l).is_in_order) (sym c.run-ran.ensures.log.handed) first_order in
    IfErr-weaker c.restart_after_crash-went_on.result _ _ (λ no accepted. for_some no _ _ (λ e refused. refused old_order) accepted)
    c.restart_after_crash-went_on.ensures.accepted
