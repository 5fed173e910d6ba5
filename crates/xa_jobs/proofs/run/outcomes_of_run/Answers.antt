use Rattle.xa_jobs.proofs.EndLemmas.{ends_of_done}
use Rattle.xa_jobs.proofs.RunLemmas.{fault_told, not_told_as_log, told_as}
use Rattle.xa_jobs.proofs.run.outcomes_of_run.Goals as goal

pub returns : goal.returns
returns g c =
    let ran = c.run_jobs.result in
    let told = c.told.ensures in
    record {
      ends = told_as _ ran c.told.result told.done told.fault
          (ends_of_done c.args.jobs.now ran c.run_jobs.ensures.ends c.run_jobs.ensures.plain);
      outcome = told_as _ ran c.told.result told.done told.fault c.run_jobs.ensures.outcome;
      can_begin = λ other. c.run_jobs.ensures.can_begin (not_told_as_log ran c.told.result told.fault other);
      fault = fault_told ran c.told.result told.done told.fault;
    }
