use Rattle.std.proofs.Common.{arith}
use Rattle.xa_conduct.proofs.BackingLemmas.{branches_moved}
use Rattle.xa_conduct.proofs.ProgressLemmas.{branches_on}
use Rattle.xa_conduct.specs.Decided.{is_commit_of}
use Rattle.xa_conduct.proofs.transaction.commit_each.Goals as goal

pub commit-requires : goal.commit-requires
commit-requires c = c.loop-part.invariant.more (is_commit_of c.args.gtrid) c.requires

pub loop-part-preserved : goal.loop-part-preserved
loop-part-preserved c =
    let more = c.in_ok-commit.ensures.more in
    record {
      more = λ p among. more p (c.loop-part.invariant.more p among);
      steps =
          branches_on c.args.parts.now c.loop-part.part-items c.loop-part.part-index _ c.commit.new.self (omega arith)
          c.in_ok-commit.ensures.closer c.loop-part.invariant.steps;
      backed =
          branches_moved c.args.plan.now.requests.items c.loop-part.plan.requests.items c.commit.new.plan.requests.items c.args.gtrid c.args.thread
          c.args.parts.now c.loop-part.part-items c.loop-part.part-index _ c.commit.new.self (omega arith) c.in_ok-commit.ensures.same more
          c.in_ok-commit.ensures.backed c.loop-part.invariant.backed;
    }
