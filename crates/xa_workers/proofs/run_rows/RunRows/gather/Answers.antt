use Rattle.std.proofs.Common.{arith, rules, [], ◌∷◌}
use Rattle.xa_base.proofs.Lists.{all_append}
use Rattle.xa_workers.proofs.RowGroups.{adds_more}
use Rattle.xa_workers.proofs.RowLaws.{noted_more, own_branches}
use Rattle.xa_workers.proofs.run_rows.RunRows.gather.Goals as goal

pub loop-job-preserved : goal.loop-job-preserved
loop-job-preserved g c =
    let before = c.loop-job.invariant in
    let d = c.in_ok-decision.field-0 in
    record {
      log = before.log;
      first = before.first;
      len = search rules;
      adds =
          rw c.in_ok-push.ensures.items
          (adds_more c.args.jobs.now c.args.incarnation c.args.self.now.written.items c.loop-job.decisions.items c.loop-job.self.written.items _ d
          (search rules) c.in_ok-decision.ensures.gtrid c.in_ok-decision.ensures.participants before.adds);
      fit = rw c.in_ok-push.ensures.items (all_append _ c.loop-job.decisions.items (d ∷ []) before.fit (search rules, tt));
      noted = noted_more c.loop-job.self.written.items c.args.asked.now c.loop-job.job-index _ (search rules) (search rules) before.noted;
      own =
          rw c.in_ok-push.ensures.items
          (all_append _ c.loop-job.decisions.items (d ∷ []) before.own
          (rw (c.in_ok-decision.ensures.participants, c.in_ok-decision.ensures.gtrid) (own_branches c.args.jobs.now c.args.incarnation _), tt));
    }

pub returns-clause-noted : goal.returns-clause-noted
returns-clause-noted g c = λ k d below. c.loop-job.invariant.noted k (omega (arith, below)) d
