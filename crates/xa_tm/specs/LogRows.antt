-- The rows and the records of a log, as a history tells them.
use Rattle.std.specs.Prelude.{◌≡◌, ◌⊎◌, ◌+◌, if◌then◌else◌, length, map, Option, Some, None}
use Rattle.std.specs.FinMap.{get, len}
use Rattle.xa_base.specs.declared.branch.Branch.{Branch}
use Rattle.xa_base.specs.declared.branch.Gtrid.{Gtrid}
use Rattle.xa_log.specs.Content.{Content, with_heuristic_record, without_decisions}
use Rattle.xa_log.specs.KeySet.{from_list}
use Rattle.xa_model.specs.Facts.{Change, Change.AddRecord, Change.AddRows, Change.DropRows, Change.NoChange, doubt, has_row, heuristic_rows, log, participants, recorded_as}
use Rattle.xa_model.specs.Trace.{Origin, Trace, Trace.From}
use Rattle.xa_tm.specs.Book.{Waiting, waiting_row}
use Rattle.xa_tm.specs.BookAndLog.{SameRowsAndRecords, with_rows}

-- the row of a transaction: the branches whose xa_commit it waits for
abbrev pub participants_of_row : Trace → Gtrid → Option Waiting
participants_of_row tr g = if has_row tr g then Some (from_list (participants tr g)) else None

-- a log has just the rows of the history, each with its participants, and its record
pub record HoldsRows (tr : Trace) (c : Content) : Type 0 where
  pub rows : (g : Gtrid) → get c.decisions g ≡ participants_of_row tr g
  pub row_number : len c.decisions ≡ length (log tr)
  pub records : (b : Branch) → get c.heuristics b ≡ recorded_as tr b
  pub record_number : len c.heuristics ≡ length (heuristic_rows tr)

-- a log with a change
abbrev pub after_change : Change → Content → Content
after_change (AddRows xs) c = with_rows (map waiting_row xs) c
after_change (DropRows gs) c = without_decisions gs c
after_change (AddRecord x) c = with_heuristic_record x.branch x.how c
after_change NoChange c = c

-- it has those rows and that record, with or without the change in doubt
abbrev pub MayHoldRows : Trace → Content → Type 0
MayHoldRows tr c = (before : Content) × HoldsRows tr before × (SameRowsAndRecords c before ⊎ SameRowsAndRecords c (after_change (doubt tr) before))

-- a history starts over a log that had just the rows and the record of its start, in the
-- incarnation before
pub record StartsOver (o : Origin) (c : Content) : Type 0 where
  pub rows : HoldsRows (From o) c
  pub incarnation : o.incarnation ≡ c.incarnation + 1
