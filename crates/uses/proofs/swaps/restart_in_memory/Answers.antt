use Rattle.std.proofs.Common.{refl, sym, subst, ◌∙◌}
use Rattle.std.proofs.lemmas.Result.{IfErr-weaker}
use Rattle.xa_log.specs.Memory.{content_held}
use Rattle.xa_log.specs.contracts.mem_log.MemLogDecisionLog.TheImpl as memory
use Rattle.xa_rm.specs.contracts.mem_rm.MemRmResourceManager.TheImpl as mem_rm
use Rattle.uses.proofs.LogSwaps.{down_taken, is_left, order_taken}
use Rattle.uses.proofs.OwnLogs.{always_honest}
use Rattle.uses.proofs.swaps.restart_in_memory.Goals as goal

pub returns-clause-given : goal.returns-clause-given
returns-clause-given c =
    let look = (mem_rm.ghosts).look in
    let moment = (memory.ghosts).moment in
    let made = c.in-Ok-new.ensures in
    let crashed = c.step-crashed.ensures in
    let took = c.take_log.ensures in
    let first = c.in-Ok-new.system in
    let old = c.step-crashed.new.self in
    let taken = c.take_log.new.self in
    let log = c.in-Some.log in
    let some = sym c.in-Some.is in
    let down = down_taken look memory.ghosts old taken log c.take_log.result took.up some in
    let here = some ∙ took.taken down in
    let order = c.new-2.ensures.order in
    let first_order = subst (λ l. (moment l).is_in_order) (sym made.log.handed) order in
    let old_order = subst (λ l. (moment l).is_in_order) (sym crashed.log.handed) first_order in
    let began = always_honest (λ l. Unit {0}) first.log.was.value first.log.log (λ l. tt) in
    let now = always_honest (λ l. Unit {0}) old.log.was.value old.log.log (λ l. tt) in
    let near = crashed.log.crash first_order now (made.log.near order began) (made.log.crash order began) in
    let left_order = order_taken look memory.ghosts old log crashed.parts old_order here in
    let is = is_left look memory.ghosts old taken log log (content_held log) crashed.parts down took.others here
    (took.out down) (took.was log c.in-Some.is) old_order near tt refl left_order refl in
    IfErr-weaker c.restart_over-restarted.result _ _ (λ e given. given (content_held log) is tt) c.restart_over-restarted.ensures.given
