use Rattle.std.proofs.Common.{◌≡◌, drop}
use Rattle.std.specs.Option.{option_or}
use Rattle.xa_base.specs.declared.branch.Gtrid.{Gtrid}
use Rattle.xa_tm.specs.LedgerBook.{row_at}
use Rattle.xa_tm.specs.Starting.{loaded}
use Rattle.xa_tm.proofs.ledger.load.load_rows.Given as goal

abbrev pub invariant-loop-g : goal.invariant-loop-g
invariant-loop-g l = (q : Gtrid) → option_or (loaded (drop l.g-index l.decisions) l.rest q) (row_at l.rows q) ≡ loaded l.decisions l.participants q
