use Rattle.xa_system.proofs.Rms.InDoubt.{lists_found}
use Rattle.xa_system.specs.SystemView.{origin_in}
use Rattle.uses.proofs.Recoveries.{ends_recovered}
use Rattle.uses.proofs.processes.recover_next.Goals as goal

pub returns-clause-recovers : goal.returns-clause-recovers
returns-clause-recovers g c past ends honest before =
    let look = g.R.ResourceManager.look in
    let system = c.in_ok-system.system in
    let start = origin_in look system in
    let parts = c.agree.ensures.parts in
    ends_recovered start before system.events parts.allowed parts.numbers
    (λ r count names answers allowed. c.across_processes.ensures.recovers past start before r count names answers
    (record { right = ends.right; resumes = c.in_ok-system.ensures.follows past ends honest; allowed = allowed }) parts.old
    (lists_found start parts.listed))
