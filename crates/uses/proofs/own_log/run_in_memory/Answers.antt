use Rattle.uses.proofs.OwnLogs.{always_honest, without_premise}
use Rattle.uses.proofs.own_log.run_in_memory.Goals as goal

pub returns : goal.returns
returns c = without_premise c.run_over.result _ _
    (λ system. always_honest (λ log. Unit {0}) system.log.was.value system.log.log (λ log. tt)) c.run_over.ensures.stands
