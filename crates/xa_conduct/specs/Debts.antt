-- What is left to the recovery.
use Rattle.std.specs.Prelude.{◌≡◌, ◌==◌, ◌&&◌, Bool, true, List}
use Rattle.std.specs.List.{list_any}
use Rattle.xa_base.specs.declared.branch.Branch.{Branch}
use Rattle.xa_conduct.specs.Decided.{is_same}
use Rattle.xa_conduct.specs.declared.debt.Debt.{Debt}

-- the end of this branch
abbrev pub is_owed_to : Branch → Debt → Bool
is_owed_to b debt = is_same b.gtrid debt.branch.gtrid && ((b.thread == debt.branch.thread) && (b.rm == debt.branch.rm))

-- what was owed still is
abbrev pub OwesNoLess : (old new : List Debt) → Type 0
OwesNoLess old new = (p : Debt → Bool) → list_any p old ≡ true → list_any p new ≡ true
