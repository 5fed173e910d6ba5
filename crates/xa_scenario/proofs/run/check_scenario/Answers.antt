use Rattle.std.proofs.lemmas.Result.{err_from_is_err_and}
use Rattle.xa_scenario_file.specs.Scenarios.{scenario_of}
use Rattle.xa_files.proofs.ReadingLemmas.{ends_with}
use Rattle.xa_scenario.proofs.RunLemmas.{explains, not_of_output}
use Rattle.xa_scenario.proofs.run.check_scenario.Goals as goal

pub returns-in_err-plan-clause-fault : goal.returns-in_err-plan-clause-fault
returns-in_err-plan-clause-fault g c =
    let p = err_from_is_err_and c.from_residual.result c.from_residual.ensures.1 in
    rw (p.1, p.2) (explains c.in_err-plan.field-0.0 c.args.text.now c.in_err-plan.ensures.read)

pub returns-in_err-plan-clause-refused : goal.returns-in_err-plan-clause-refused
returns-in_err-plan-clause-refused g c =
    let p = err_from_is_err_and c.from_residual.result c.from_residual.ensures.1 in
    λ e known. rw (p.1, p.2) (ends_with c.in_err-plan.field-0.0 e (scenario_of c.args.text.now) c.in_err-plan.ensures.read known)

pub returns-in_err-plan-clause-begun : goal.returns-in_err-plan-clause-begun
returns-in_err-plan-clause-begun g c =
    let p = err_from_is_err_and c.from_residual.result c.from_residual.ensures.1 in
    rw (p.1, p.2) (λ e. absurd (not_of_output c.in_err-plan.field-0.0 c.args.text.now c.in_err-plan.ensures.read e))
