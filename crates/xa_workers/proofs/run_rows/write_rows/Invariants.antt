use Rattle.std.proofs.Common.{◌≡◌, ◌≤◌, vec_len}
use Rattle.xa_workers.specs.Rows.{FailsNot, HasRowsOf}
use Rattle.xa_workers.specs.declared.limits.TheConstants.{JOB_LIMIT}
use Rattle.xa_workers.proofs.run_rows.write_rows.Given as goal

abbrev pub invariant-loop : goal.invariant-loop
invariant-loop g l =
    record {
      few : vec_len l.run_rows.written ≤ JOB_LIMIT;
      first : l.run_rows.first ≡ l.initial.run_rows.first;
      kept : HasRowsOf g.L.DecisionLog l.crew.jobs.now l.crew.incarnation l.run_rows;
      sound : FailsNot g.L.DecisionLog.moment l.initial.run_rows.log l.run_rows.log;
    }
