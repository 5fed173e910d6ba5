-- The rows of a log are of different transactions.
use Rattle.std.proofs.Common.{◌≡◌, List, [], ◌∷◌, map, false, ◌||◌, refl, ap, ◌∙◌, Less}
use Rattle.std.specs.FinMap.{entries, entries_sorted}
use Rattle.std.specs.List.{AllByRecursion}
use Rattle.std.specs.List.Sorted.{IsStrictlySortedBy}
use Rattle.xa_base.specs.declared.branch.Gtrid.{Gtrid}
use Rattle.xa_base.specs.Branch.{gtrid_cmp}
use Rattle.xa_base.proofs.Orders.{less_differs}
use Rattle.xa_model.specs.Facts.Distinct.{ApartRows}
use Rattle.xa_model.specs.Facts.{lists_row}
use Rattle.xa_model.specs.Trace.{Row}
use Rattle.xa_log.specs.Content.{Content}
use Rattle.xa_log.specs.KeySet.{items}
use Rattle.xa_tm.specs.Book.{Waiting}
use Rattle.xa_tm.specs.Starting.{rows_from}
use Rattle.xa_log.proofs.Rising.{risen}

abbrev row_of : Gtrid × Waiting → Row
row_of e = record { gtrid = e.0; participants = items e.1 }

abbrev key_of : Gtrid × Waiting → Gtrid
key_of e = e.0

none_listed : (g : Gtrid) (es : List (Gtrid × Waiting)) → AllByRecursion (λ h. gtrid_cmp g h ≡ Less) (map key_of es) → lists_row (map row_of es) g ≡ false
none_listed g [] low = refl
none_listed g (e ∷ es) low = ap (λ t. t || lists_row (map row_of es) g) (less_differs g e.0 low.0) ∙ none_listed g es low.1

all_apart : (es : List (Gtrid × Waiting)) → IsStrictlySortedBy gtrid_cmp (map key_of es) → ApartRows (map row_of es)
unfolding IsStrictlySortedBy
all_apart [] up = tt
all_apart (e ∷ es) up = (none_listed e.0 es up.0, all_apart es up.1)

pub start_rows_apart : (c : Content) → ApartRows (rows_from c)
start_rows_apart c = all_apart (entries c.decisions) (risen gtrid_cmp (entries c.decisions) (entries_sorted c.decisions))
