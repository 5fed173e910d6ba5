use Rattle.std.proofs.Common.{◌≡◌, drop}
use Rattle.xa_tm.specs.Swaps.{each_once, keeps_row}
use Rattle.xa_tm.proofs.ledger.Ledger.keeps_each.Given as goal

abbrev pub invariant-loop-i : goal.invariant-loop-i
invariant-loop-i l = each_once (keeps_row l.self) (drop l.i l.gtrids) ≡ each_once (keeps_row l.self) l.gtrids
