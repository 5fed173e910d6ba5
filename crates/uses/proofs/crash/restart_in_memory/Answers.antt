use Rattle.uses.proofs.OwnLogs.{always_honest}
use Rattle.uses.proofs.crash.restart_in_memory.Goals as goal
use Rattle.std.proofs.lemmas.Result.{IfOk-weaker, IfErr-weaker}

pub returns-clause-given : goal.returns-clause-given
returns-clause-given c =
    let went_on = c.in_ok-restart_after_fault.field-0.0 in
    IfOk-weaker went_on _ _ (λ it given. IfErr-weaker it _ _ (λ e refused. refused (c.memory_is_honest.ensures e.1)) given)
    (c.in_ok-restart_after_fault.ensures.given c.in_ok-log.ensures.order)

pub returns-clause-restarted : goal.returns-clause-restarted
returns-clause-restarted c =
    let went_on = c.in_ok-restart_after_fault.field-0.0 in
    let place = c.in_ok-restart_after_fault.field-0.1.log in
    IfOk-weaker went_on _ _
    (λ it restarted. IfOk-weaker it _ _
    (λ reply accepted count. accepted (always_honest _ place.was.value place.log c.memory_is_honest.ensures) count) restarted)
    (c.in_ok-restart_after_fault.ensures.restarted c.in_ok-log.ensures.order)
