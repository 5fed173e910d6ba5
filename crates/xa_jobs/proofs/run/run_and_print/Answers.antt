use Rattle.std.proofs.Common.{Err, ap}
use Rattle.std.proofs.lemmas.Result.{err_from_is_err_and}
use Rattle.xa_files.proofs.TablesInTurnLemmas.{same_err}
use Rattle.xa_jobs.proofs.RunLemmas.{not_output, work_is_run}
use Rattle.xa_jobs.proofs.run.run_and_print.Goals as goal

pub returns-in_err-done-clause-begun : goal.returns-in_err-done-clause-begun
returns-in_err-done-clause-begun g c =
    let p = err_from_is_err_and c.from_residual.result c.from_residual.ensures.1 in
    rw (p.1, p.2) (λ e. absurd (not_output c.in_err-done.field-0.0 c.in_err-done.ensures.fault e))

pub returns-in_err-done-clause-fault : goal.returns-in_err-done-clause-fault
returns-in_err-done-clause-fault g c =
    let p = err_from_is_err_and c.from_residual.result c.from_residual.ensures.1 in
    rw (p.1, p.2) (work_is_run c.in_err-done.field-0.0 c.in_err-done.ensures.fault)

pub returns-in_err-done-clause-can_begin : goal.returns-in_err-done-clause-can_begin
returns-in_err-done-clause-can_begin g c =
    let p = err_from_is_err_and c.from_residual.result c.from_residual.ensures.1 in
    rw (p.1, p.2) (λ other. c.in_err-done.ensures.can_begin (λ same. other (ap (λ e. Err e) (same_err _ _ same))))

pub returns-in_err-print_ends-clause-begun : goal.returns-in_err-print_ends-clause-begun
returns-in_err-print_ends-clause-begun g c =
    let p = err_from_is_err_and c.from_residual-in_err-print_ends.result c.from_residual-in_err-print_ends.ensures.1 in
    rw (p.1, p.2) (λ e. record {
      ends = c.in_ok-done.done.ends.items;
      allowed = c.in_ok-done.ensures.ends;
      begins = rw (← c.deref.ensures.value) (c.in_err-print_ends.ensures.begun e);
    })

pub returns-in_err-print_ends-clause-can_begin : goal.returns-in_err-print_ends-clause-can_begin
returns-in_err-print_ends-clause-can_begin g c = λ other. c.in_ok-done.ensures.can_begin (λ e. cc)

pub returns-clause-ends : goal.returns-clause-ends
returns-clause-ends g c =
    let outcome = c.in_ok-done.ensures.outcome in
    record {
      ends = c.in_ok-done.done.ends.items;
      allowed = c.in_ok-done.ensures.ends;
      writes = rw (← c.deref.ensures.value) c.in_ok-print_ends.ensures.lines;
      incarnation = outcome.incarnation;
      logs = outcome.logs;
    }

pub returns-clause-can_begin : goal.returns-clause-can_begin
returns-clause-can_begin g c = λ other. c.in_ok-done.ensures.can_begin (λ e. cc)
