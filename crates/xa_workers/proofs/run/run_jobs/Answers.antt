use Rattle.std.proofs.Common.{Err, ap}
use Rattle.std.proofs.lemmas.Result.{err_from_is_err_and}
use Rattle.xa_workers.proofs.FateOrder.{in_order_if_ok}
use Rattle.xa_workers.proofs.Verification.{can_begin, outcome_if_ok, plain_if_ok}
use Rattle.xa_workers.proofs.run.run_jobs.Goals as goal

pub returns-clause-plain : goal.returns-clause-plain
returns-clause-plain g c = plain_if_ok c.args.jobs.now (λ o. o.ends.items) c.run_named.result c.run_named.ensures.ends

pub returns-clause-order : goal.returns-clause-order
returns-clause-order g c =
    in_order_if_ok c.args.jobs.now c.in_ok-begun.begun.incarnation (λ o. o.ends.items) (λ o. o.fates.items) c.run_named.result c.requires
    c.in_ok-begun.ensures.most c.run_named.ensures.fates

pub returns-clause-outcome : goal.returns-clause-outcome
returns-clause-outcome g c =
    outcome_if_ok g.L.DecisionLog c.args.jobs.now c.in_ok-begun.begun.first.value c.args.log c.in_ok-begun.begun.incarnation c.run_named.result
    c.in_ok-begun.ensures.first c.run_named.ensures.fates c.run_named.ensures.rms c.run_named.ensures.rows

pub returns-clause-can_begin : goal.returns-clause-can_begin
returns-clause-can_begin g c = λ other.
    can_begin g.L.DecisionLog c.in_ok-begun.begun.first.value c.args.log c.in_ok-begun.begun.log c.in_ok-begun.begun.incarnation
    c.in_ok-begun.ensures.first c.in_ok-begun.ensures.begun c.in_ok-begun.ensures.faults

pub returns-in_err-begun-clause-can_begin : goal.returns-in_err-begun-clause-can_begin
returns-in_err-begun-clause-can_begin g c =
    let p = err_from_is_err_and c.from_residual.result c.from_residual.ensures.1 in
    rw (p.1, p.2) (λ other. absurd (other (ap (λ e. Err e) c.in_err-begun.ensures.fault)))
