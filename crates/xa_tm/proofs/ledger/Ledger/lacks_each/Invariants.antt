use Rattle.std.proofs.Common.{◌≡◌, drop}
use Rattle.xa_tm.specs.LedgerBook.{gtrids_of}
use Rattle.xa_tm.specs.Swaps.{each_once, lacks_row}
use Rattle.xa_tm.proofs.ledger.Ledger.lacks_each.Given as goal

abbrev pub invariant-loop-i : goal.invariant-loop-i
invariant-loop-i l = each_once (lacks_row l.self) (gtrids_of (drop l.i l.decisions)) ≡ each_once (lacks_row l.self) (gtrids_of l.decisions)
