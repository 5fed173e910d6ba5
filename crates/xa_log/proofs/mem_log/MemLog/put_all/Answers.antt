use Rattle.std.proofs.Common.{◌<◌, ◌∙◌, arith, length}
use Rattle.xa_log.specs.Memory.{content_held}
use Rattle.xa_log.proofs.Together.{one_more_made}
use Rattle.xa_log.proofs.mem_log.MemLog.put_all.Goals as goal

pub loop-decision-preserved : goal.loop-decision-preserved
loop-decision-preserved c =
    let ds = c.args.decisions.now in
    let n = c.loop-decision.decision-index in
    let low : n < length ds = omega arith in
    record {
      room = omega (arith, c.push_reserved.ensures.capacity, c.loop-decision.invariant.room);
      count = omega (arith, c.push_reserved.ensures.len, c.loop-decision.invariant.count);
      faults = c.put_decision.ensures.faults ∙ c.loop-decision.invariant.faults;
      made =
          one_more_made ds n c.decision-item.result c.loop-decision.answers.items c.push_reserved.new.self.items c.in-Ok.logged (content_held c.args.self.now)
          (content_held c.loop-decision.self)
          (content_held c.put_decision.new.self) low c.decision-item.is c.push_reserved.ensures.items c.loop-decision.invariant.made c.in-Ok.ensures.answer
          (rw c.as_slice.ensures.value at c.in-Ok.ensures.ok);
    }
