use Rattle.xa_workers.proofs.RowLaws.{noted_at}
use Rattle.xa_workers.proofs.run_rows.write_asked.Goals as goal

pub reply-requires-clause-noted : goal.reply-requires-clause-noted
reply-requires-clause-noted g c =
    noted_at c.write_each.new.self.written.items c.as_slice.result.now c.deref-thread-items.result.now _ c.as_slice.ensures.value
    c.deref-thread-items.ensures.value c.in_ok-write_each.ensures.noted c.loop-thread.thread-index _ c.loop-thread-test.true
