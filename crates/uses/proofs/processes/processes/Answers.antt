use Rattle.std.proofs.Common.{◌≤◌, ◌<◌, ◌++◌, ◌∷◌, [], ◌∙◌, arith, ap, length, map, subst, take}
use Rattle.std.proofs.lemmas.List.{take_all}
use Rattle.xa_log.specs.contracts.mem_log.MemLogDecisionLog.TheImpl as memory
use Rattle.xa_rm.specs.contracts.mem_rm.MemRmResourceManager.TheImpl as mem_rm
use Rattle.xa_system.specs.SystemView.{observes}
use Rattle.uses.proofs.LaterProcesses.{lists_more}
use Rattle.uses.proofs.OwnLogs.{always_honest}
use Rattle.uses.specs.Processes.{AreProcesses}
use Rattle.uses.proofs.processes.processes.Goals as goal

pub loop-steps-init : goal.loop-steps-init
loop-steps-init c = c.in_ok-system.ensures

pub loop-steps-preserved : goal.loop-steps-preserved
loop-steps-preserved c =
    let see = observes (mem_rm.ghosts).look (memory.ghosts).moment in
    let first = c.args.first.now in
    let later = c.args.later.now in
    let i = c.loop-steps.steps-index in
    let low : i < length later = omega (arith, c.loop-steps-test.true) in
    let lists = first ∷ map (λ steps. steps.items) (take i later) in
    let next = c.in_ok-system-2.system in
    subst (λ ls. AreProcesses see (first ∷ ls) next)
    (ap (λ steps. map (λ v. v.items) (take i later) ++ steps ∷ []) c.deref.ensures.value
    ∙ lists_more (λ v. v.items) later i c.steps-item.result low c.steps-item.is)
    (c.in_ok-system-2.ensures.chain lists c.loop-steps.invariant (always_honest (λ l. Unit {0}) next.log.was.value next.log.log (λ l. tt)))

pub returns : goal.returns
returns c =
    let see = observes (mem_rm.ghosts).look (memory.ghosts).moment in
    let later = c.args.later.now in
    let i = c.loop-steps.steps-index in
    let many : length later ≤ i = omega (arith, c.loop-steps-test.false) in
    subst (λ ls. AreProcesses see (c.args.first.now ∷ map (λ steps. steps.items) ls) c.loop-steps.system) (take_all i later many) c.loop-steps.invariant
