use Rattle.std.proofs.Common.{◌≡◌, ◌∙◌, Err, Some, refl, subst, sym, IsSomeAnd, ⊎_elim}
use Rattle.xa_files.proofs.TablesInTurnLemmas.{same_err}
use Rattle.xa_scenario.proofs.ProcessLemmas.{goes_on, left_there, over_a_branch, over_the_log}
use Rattle.xa_scenario.proofs.StartLemmas.{has_started}
use Rattle.xa_system.specs.LogInHistory.{StartsOver}
use Rattle.xa_system.specs.SystemView.{observes, origin_in}
use Rattle.xa_system.specs.declared.resume.ResumeFault.TheVariants as faults
use Rattle.xa_scenario.proofs.processes.next_system.Goals as goal

pub returns-in-Ok-resume-clause-goes_on : goal.returns-in-Ok-resume-clause-goes_on
returns-in-Ok-resume-clause-goes_on g c =
    let look = g.R.ResourceManager.look in
    let moment = g.L.DecisionLog.moment in
    let new = c.in-Ok-resume.system in
    let at : c.in-Ok.remains.log ≡ Some c.in_ok-log.log = left_there _ _ (c.in_ok-log.ensures) in
    let resumed = c.in-Ok-resume.ensures in
    goes_on look moment _ c.in-Ok.remains.rms.items c.args.system new (sym c.in-Ok.ensures.log ∙ at)
    (has_started (observes g.R.ResourceManager.look moment) _ new refl
    resumed.log.begun resumed.log.handed resumed.log.honest
    (λ order honest.
    subst (λ log. IsSomeAnd (moment log).content (StartsOver (origin_in look new))) resumed.log.first
    (resumed.ok.4.log.start (subst (λ log. (moment log).is_in_order) (sym resumed.log.first) order) honest))
    resumed.log.near resumed.log.held)
    (λ order. c.in-Ok.ensures.order order _ at)
    (λ order honest near content is. c.in-Ok.ensures.left order honest near _ content at is)
    resumed.follows

pub returns-in-Err-clause-log : goal.returns-in-Err-clause-log
returns-in-Err-clause-log g c = λ told.
    let look = g.R.ResourceManager.look in
    let at : c.in-Ok.remains.log ≡ Some c.in_ok-log.log = left_there _ _ (c.in_ok-log.ensures) in
    let fault = c.resume_fault.ensures.log.0 (same_err _ _ told) in
    ⊎_elim
    (λ (is : c.in-Err.fault ≡ faults.Log).
    over_the_log look g.L.DecisionLog c.args.system _ (sym c.in-Ok.ensures.log ∙ at)
    (c.resume.ensures.log_fault (let failed : c.resume.result ≡ Err faults.Log = cc in failed)))
    (λ (is : c.in-Err.fault ≡ faults.Newer).
    over_a_branch look g.L.DecisionLog c.args.system _ (sym c.in-Ok.ensures.log ∙ at) c.in-Ok.remains.rms.items c.in-Ok.ensures.rms
    (c.resume.ensures.only_newer (let newer : c.resume.result ≡ Err faults.Newer = cc in newer)))
    fault
