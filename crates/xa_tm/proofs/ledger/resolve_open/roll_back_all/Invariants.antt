use Rattle.std.proofs.Common.{◌≡◌, drop}
use Rattle.xa_base.specs.declared.branch.Gtrid.{Gtrid}
use Rattle.xa_tm.specs.LedgerBook.{HaveRoom, transaction_at}
use Rattle.xa_tm.specs.Resolving.{rolled_back_by}
use Rattle.xa_tm.proofs.ledger.resolve_open.roll_back_all.Given as goal

abbrev pub invariant-loop-g : goal.invariant-loop-g
invariant-loop-g l = HaveRoom l.map (drop l.g-index l.gtrids)
    × ((q : Gtrid) → rolled_back_by (drop l.g-index l.gtrids) q (transaction_at l.map q) ≡ rolled_back_by l.gtrids q (transaction_at l.fn.map q))
