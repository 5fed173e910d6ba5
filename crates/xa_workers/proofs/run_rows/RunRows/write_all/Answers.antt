use Rattle.xa_workers.proofs.RowGroups.{logs_all}
use Rattle.xa_workers.proofs.run_rows.RunRows.write_all.Goals as goal

pub returns-clause-kept : goal.returns-clause-kept
returns-clause-kept g c =
    logs_all g.L.DecisionLog c.args.jobs.now c.args.incarnation c.args.self.now.written.items c.gather.new.self.written.items
    c.in_ok-decisions.decisions.items c.gather.new.self.first.value c.gather.new.self.log c.commit_all.new.self
    c.in_ok-decisions.ensures.adds (rw (c.in_ok-decisions.ensures.first, c.in_ok-decisions.ensures.log) c.requires.kept)
    c.in_ok-commit_all.field-0 (rw (c.as_slice.ensures.value) at c.in_ok-commit_all.ensures.changes)
