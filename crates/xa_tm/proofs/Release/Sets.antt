-- Which branches of a list, and of a set, pass a test.
use Rattle.std.proofs.Common.{◌≡◌, List, [], ◌∷◌, filter, Bool, true, ◌&&◌, ◌||◌, refl, sym, ap, ◌∙◌}
use Rattle.std.specs.List.{list_any}
use Rattle.std.specs.Ordering.{eq_by_cmp}
use Rattle.std.proofs.lemmas.Bool.{or_right}
use Rattle.std.proofs.lemmas.Cmp.{eq_by_cmp_equiv}
use Rattle.xa_base.specs.Branch.{branch_cmp}
use Rattle.xa_base.specs.declared.branch.Branch.{Branch}
use Rattle.xa_base.proofs.BranchOrder.{branches_total}
use Rattle.xa_log.specs.KeySet.{KeySet, contains, contains-from_list, contains-items, from_list, items}
use Rattle.xa_model.specs.Facts.{each, each_of_some}
use Rattle.xa_tm.proofs.History.OneMore.{any_filter}

pub among_set : (q : Branch) (s : KeySet branch_cmp) → list_any (eq_by_cmp branch_cmp q) (items s) ≡ contains s q
among_set q s = sym (contains-items s q)

-- the set of those that pass
pub set_filtered : (p : Branch → Bool) (q : Branch) (s : KeySet branch_cmp)
    → contains (from_list {R = branch_cmp} (filter p (items s))) q ≡ (p q && contains s q)
set_filtered p q s =
    contains-from_list branches_total (filter p (items s)) q ∙ any_filter p q (items s) ∙ ap (λ u. p q && u) (among_set q s)

-- what is asked of each depends on the members alone
each_alike : (p r : Branch → Bool) (xs : List Branch) → ((q : Branch) → list_any (eq_by_cmp branch_cmp q) xs ≡ true → p q ≡ r q) → each p xs ≡ each r xs
each_alike p r [] same = refl
each_alike p r (x ∷ xs) same =
    ap (λ t. t && each p xs) (same x (ap (λ t. t || list_any (eq_by_cmp branch_cmp x) xs) ((eq_by_cmp_equiv branches_total).refl x)))
    ∙ ap (λ t. r x && t) (each_alike p r xs (λ q e. same q (or_right (eq_by_cmp branch_cmp q x) _ e)))

pub some_alike : (p r : Branch → Bool) (xs : List Branch) → ((q : Branch) → list_any (eq_by_cmp branch_cmp q) xs ≡ true → p q ≡ r q)
    → each_of_some p xs ≡ each_of_some r xs
some_alike p r [] same = refl
some_alike p r (x ∷ xs) same = each_alike p r (x ∷ xs) same
