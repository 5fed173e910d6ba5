use Rattle.std.proofs.Common.{rules}
use Rattle.xa_workers.specs.Rows.{participants_of_job}
use Rattle.xa_workers.proofs.RowLaws.{logs_more, noted_here, own_branches}
use Rattle.xa_workers.proofs.run_rows.RunRows.write.Goals as goal

pub commit-requires-clause-own : goal.commit-requires-clause-own
commit-requires-clause-own g c =
    rw (c.as_slice.ensures.value, c.in_ok-participants.ensures, c.gtrid.ensures) (own_branches c.args.jobs.now c.args.incarnation c.args.job)

pub returns-clause-kept : goal.returns-clause-kept
returns-clause-kept g c =
    logs_more g.L.DecisionLog c.args.incarnation
    (participants_of_job c.args.jobs.now c.args.incarnation) c.args.self.now.written.items c.args.job c.args.self.now.first.value
    c.args.self.now.log c.commit.new.self (search rules) c.requires.kept c.in_ok-commit.field-0
    (rw (c.as_slice.ensures.value, c.in_ok-participants.ensures, c.gtrid.ensures) at c.in_ok-commit.ensures.changes)

pub returns-clause-noted : goal.returns-clause-noted
returns-clause-noted g c = noted_here c.args.self.now.written.items c.args.job (search rules)
