-- The started branches of a map are in order.
use Rattle.std.proofs.Common.{◌≡◌, List, [], ◌∷◌, filter, cond, Bool, true, false, Less}
use Rattle.std.specs.List.{AllByRecursion}
use Rattle.std.specs.List.Sorted.{IsStrictlySortedBy}
use Rattle.std.specs.Map.{keys_of}
use Rattle.xa_base.specs.Branch.{branch_cmp}
use Rattle.xa_base.specs.declared.branch.Branch.{Branch}
use Rattle.xa_tm.specs.LedgerBook.{started_keys}
use Rattle.xa_tm.specs.declared.notes.BranchNotes.{BranchNotes}

abbrev IsBelow : Branch → List Branch → Type 0
IsBelow x bs = AllByRecursion (λ y. branch_cmp x y ≡ Less) bs

still_below : (x : Branch) (es : List (Branch × BranchNotes)) → IsBelow x (keys_of es) → IsBelow x (started_keys es)
still_below x [] h = tt
still_below x (e ∷ es) h = by e.1.is_started (still_below x es h.1)
  where
    by : (t : Bool) → IsBelow x (started_keys es)
        → IsBelow x (keys_of (cond t (e ∷ filter (λ e. e.1.is_started) es) (filter (λ e. e.1.is_started) es)))
    by true rest = (h.0, rest)
    by false rest = rest

pub started_in_order : (es : List (Branch × BranchNotes)) → IsStrictlySortedBy branch_cmp (keys_of es)
    → IsStrictlySortedBy branch_cmp (started_keys es)
unfolding IsStrictlySortedBy
started_in_order [] up = tt
started_in_order (e ∷ es) up = by e.1.is_started (still_below e.0 es up.0) (started_in_order es up.1)
  where
    by : (t : Bool) → IsBelow e.0 (started_keys es) → IsStrictlySortedBy branch_cmp (started_keys es)
        → IsStrictlySortedBy branch_cmp (keys_of (cond t (e ∷ filter (λ e. e.1.is_started) es) (filter (λ e. e.1.is_started) es)))
    by true below rest = (below, rest)
    by false below rest = rest
