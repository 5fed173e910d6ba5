use Rattle.std.proofs.Common.{rules}
use Rattle.std.proofs.lemmas.List.Elements.{All-push}
use Rattle.xa_rm.specs.contracts.mem_rm.MemRmResourceManager.TheImpl as memory
use Rattle.xa_scenario.specs.Runs.{IsNewRm}
use Rattle.xa_scenario.proofs.start.rms_of.Goals as goal

pub loop-rm-preserved : goal.loop-rm-preserved
loop-rm-preserved c = record {
  count = search rules;
  new =
      rw c.in_ok-push.ensures.items
      (All-push (IsNewRm (memory.ghosts).look) c.loop-rm.rms.items c.new.result c.loop-rm.invariant.new
      (record { held = c.new.ensures.held; in_doubt = c.new.ensures.in_doubt; scans = c.new.ensures.scans }));
}
