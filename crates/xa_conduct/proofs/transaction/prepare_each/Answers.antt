use Rattle.std.proofs.Common.{arith}
use Rattle.xa_conduct.proofs.BackingLemmas.{branches_moved}
use Rattle.xa_conduct.proofs.ProgressLemmas.{branches_on}
use Rattle.xa_conduct.proofs.transaction.prepare_each.Goals as goal

pub loop-part-preserved : goal.loop-part-preserved
loop-part-preserved c =
    let more = c.in_ok-prepare.ensures.more in
    record {
      more = λ p among. more p (c.loop-part.invariant.more p among);
      steps =
          branches_on c.args.parts.now c.loop-part.part-items c.loop-part.part-index _ c.prepare.new.self (omega arith)
          c.in_ok-prepare.ensures.closer c.loop-part.invariant.steps;
      backed =
          branches_moved c.args.plan.now.requests.items c.loop-part.plan.requests.items c.prepare.new.plan.requests.items c.args.gtrid c.args.thread
          c.args.parts.now c.loop-part.part-items c.loop-part.part-index _ c.prepare.new.self (omega arith) c.in_ok-prepare.ensures.same more
          c.in_ok-prepare.ensures.backed c.loop-part.invariant.backed;
    }
