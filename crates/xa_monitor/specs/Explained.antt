-- What it means that all that was seen is explained: some right history of it.
use Rattle.std.specs.Prelude.{◌≡◌, ◌<◌, true}
use Rattle.xa_base.specs.declared.state.Standing.{Standing}
use Rattle.xa_model.specs.Facts.{has_record, lists_row, standing}
use Rattle.xa_model.specs.Protocol.{IsRun}
use Rattle.xa_model.specs.Trace.{Branch, Gtrid, Origin, Trace}
use Rattle.xa_monitor.specs.Seen.{IsHistory, Seen}

-- no row and no record of the start is of a transaction that may still be begun
pub record HasOnlyOlderRows (o : Origin) : Type 0 where
  pub rows_old : (g : Gtrid) → lists_row o.rows g ≡ true → g.incarnation < o.incarnation
  pub record_old : (b : Branch) → has_record o.heuristic_rows b ≡ true → b.gtrid.incarnation < o.incarnation

-- a right history of what was seen
pub record IsExplained (o : Origin) (seen : Seen) : Type 0 where
  pub history : Trace
  pub is_history : IsHistory o seen history
  pub runs : IsRun history

-- one that leaves each branch there
pub record IsExplainedAt (o : Origin) (seen : Seen) (f : Branch → Standing) : Type 0 where
  pub whole : IsExplained o seen
  pub there : (b : Branch) → standing whole.history b ≡ f b
