use Rattle.xa_log.specs.contracts.mem_log.MemLogDecisionLog.TheImpl as memory
use Rattle.uses.proofs.StartRows.{prints_if_ok}
use Rattle.uses.proofs.scenario.printed_after.Goals as goal

pub returns : goal.returns
returns c =
    prints_if_ok (memory.ghosts).moment c.in-Ok.log c.args.g c.args.participants.now c.args.text.now (λ out. out.items) c.printed.result
    (λ l. tt) c.in-Ok.ensures.order c.in-Ok.ensures.content c.printed.ensures
