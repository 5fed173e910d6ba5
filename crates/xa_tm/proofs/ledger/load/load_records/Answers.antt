use Rattle.std.proofs.Common.{◌<◌, ◌∙◌, arith, length}
use Rattle.xa_tm.specs.LedgerBook.{notes_at}
use Rattle.xa_tm.specs.Starting.{ended_among}
use Rattle.xa_tm.proofs.History.Starts.{records_more, only_recorded}
use Rattle.xa_tm.proofs.ledger.load.load_records.Goals as goal

pub loop-end-preserved : goal.loop-end-preserved
loop-end-preserved c =
    let ends = c.args.ends.now in
    let i = c.loop-end.end-index in
    let low : i < length ends = omega arith in
    let old = notes_at c.loop-end.branches in
    let new = notes_at c.put_record.new.branches in (
      records_more ends i _ old new (ended_among ends) c.in_ok-put_record.ensures.notes low c.loop-end.invariant.0,
      only_recorded ends i _ old new (ended_among ends) c.in_ok-put_record.ensures.notes c.loop-end.invariant.1,
      c.in_ok-put_record.ensures.known ∙ c.loop-end.invariant.2,
    )
