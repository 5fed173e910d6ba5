use Rattle.std.proofs.Common.{◌<◌, ◌∙◌, arith, length}
use Rattle.xa_log.specs.Memory.{content_held}
use Rattle.xa_log.proofs.TakenTogether.{one_more_taken}
use Rattle.xa_log.proofs.mem_log.MemLog.remove_all.Goals as goal

pub loop-g-preserved : goal.loop-g-preserved
loop-g-preserved c =
    let low : c.loop-g.g-index < length c.args.gtrids.now = omega arith in
    record {
      faults = c.remove_decision.ensures.faults ∙ c.loop-g.invariant.faults;
      removed =
          one_more_taken c.args.gtrids.now c.loop-g.g-index _ (content_held c.args.self.now) (content_held c.loop-g.self)
          (content_held c.remove_decision.new.self) low c.loop-g.invariant.removed c.remove_decision.ensures.removed;
    }
