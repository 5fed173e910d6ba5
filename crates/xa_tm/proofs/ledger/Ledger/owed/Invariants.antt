use Rattle.std.proofs.Common.{◌≡◌, ◌||◌}
use Rattle.std.specs.BTreeSet.{contains}
use Rattle.xa_base.specs.Branch.{branch_cmp}
use Rattle.xa_base.specs.declared.branch.Branch.{Branch}
use Rattle.xa_tm.proofs.Maps.OwedRows.{any_owes}
use Rattle.xa_tm.proofs.ledger.Ledger.owed.Given as goal

abbrev pub invariant-loop-g : goal.invariant-loop-g
invariant-loop-g l =
    (q : Branch) → (contains branch_cmp l.owed q || any_owes l.self.incarnation l.rm q l.g-iterator) ≡ any_owes l.self.incarnation l.rm q l.self.rows.entries
