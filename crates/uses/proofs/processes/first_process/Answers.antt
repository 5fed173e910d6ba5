use Rattle.std.proofs.Common.{subst, sym}
use Rattle.xa_log.specs.contracts.mem_log.MemLogDecisionLog.TheImpl as memory
use Rattle.xa_model.specs.Protocol.{RightOrigin}
use Rattle.xa_rm.specs.contracts.mem_rm.MemRmResourceManager.TheImpl as mem_rm
use Rattle.xa_system.specs.SystemView.{observes, origin_in}
use Rattle.uses.proofs.OwnLogs.{always_honest}
use Rattle.uses.proofs.LaterProcesses.{are_done, first}
use Rattle.uses.proofs.processes.first_process.Goals as goal

pub returns-in-Ok-new : goal.returns-in-Ok-new
returns-in-Ok-new c =
    let moment = (memory.ghosts).moment in
    let see = observes (mem_rm.ghosts).look moment in
    let made = c.in-Ok-new.ensures in
    let ran = c.run-ran.ensures in
    let began = c.in-Ok-new.system in
    let now = c.run-ran.new.self in
    let start : RightOrigin (origin_in see.look now) = subst RightOrigin (sym ran.start) made.right in
    let was_honest = always_honest (λ l. Unit {0}) began.log.was.value began.log.log (λ l. tt) in
    let honest = always_honest (λ l. Unit {0}) now.log.was.value now.log.log (λ l. tt) in
    let order = c.new-2.ensures.order in
    let handed = subst (λ l. (moment l).is_in_order) (sym made.log.handed) order in
    first see c.args.steps.now now start ran.parts
    (are_done c.args.steps.now began now c.run-ran.result made.ok.0 ran.room ran.adds ran.limit ran.err)
    (c.replies_are_allowed.ensures.events (origin_in see.look now) now.events start ran.parts.allowed)
    (subst (λ l. (moment l).is_in_order) (sym ran.log.handed) handed) (ran.log.near handed honest (made.log.near order was_honest))
