use Rattle.std.proofs.Common.{◌≡◌, [], drop}
use Rattle.std.specs.Option.{option_or}
use Rattle.xa_base.specs.declared.branch.Branch.{Branch}
use Rattle.xa_log.specs.KeySet.{from_list}
use Rattle.xa_tm.specs.LedgerBook.{notes_at, known_in}
use Rattle.xa_tm.specs.Starting.{AreUnstarted, ended_among}
use Rattle.xa_tm.proofs.ledger.load.load_records.Given as goal

abbrev pub invariant-loop-end : goal.invariant-loop-end
invariant-loop-end l = ((q : Branch) → option_or (ended_among (drop l.end-index l.ends) q) (notes_at l.branches q).recorded ≡ ended_among l.ends q)
    × AreUnstarted l.branches × (known_in l.branches ≡ from_list [])
