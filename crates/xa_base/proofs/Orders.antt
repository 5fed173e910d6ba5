-- What compares equal is the same: names of transactions and of branches, either way round.
use Rattle.std.proofs.Common.{List, [], ◌∷◌, ◌≡◌, Bool, true, false, is_eq, refl, sym, ap, ◌∙◌, Ordering, Less, Equal, inl, inr}
use Rattle.std.specs.BTreeMap.{is_at}
use Rattle.std.specs.Ordering.{eq_by_cmp}
use Rattle.std.specs.List.{AllByRecursion, list_any}
use Rattle.std.specs.Cmp.{Equal-is, tied_itself}
use Rattle.std.proofs.lemmas.Bool.{cases_Bool, or_left, or_right, true≢false}
use Rattle.std.proofs.lemmas.Cmp.{eq_by_cmp_equiv}
use Rattle.xa_base.specs.Branch.{gtrid_eq, branch_eq, gtrid_cmp, branch_cmp}
use Rattle.xa_base.specs.declared.branch.Branch.{Branch}
use Rattle.xa_base.specs.declared.branch.Gtrid.{Gtrid}
use Rattle.xa_base.proofs.BranchKeys.{branch_eq-refl, branch_eq-true, gtrid_eq-true}
use Rattle.xa_base.proofs.BranchOrder.{gtrids_total, branches_total, exact_branches}

pub equal_is : (o : Ordering) → is_eq o ≡ true → o ≡ Equal
equal_is o e = (Equal-is o).0 e

pub same_branch : (b c : Branch) → eq_by_cmp branch_cmp b c ≡ true → b ≡ c
same_branch b c e = exact_branches b c (equal_is _ e)

pub gtrid_swap : (g h : Gtrid) → eq_by_cmp gtrid_cmp h g ≡ gtrid_eq g h
gtrid_swap g h = (eq_by_cmp_equiv gtrids_total).symm h g

pub branch_swap : (b c : Branch) → eq_by_cmp branch_cmp c b ≡ branch_eq b c
branch_swap b c = (eq_by_cmp_equiv branches_total).symm c b

-- a branch ties with itself alone
pub branch_tie : (b q : Branch) → is_at (branch_cmp b) q ≡ branch_eq b q
branch_tie b q = by (is_at (branch_cmp b) q) (branch_eq b q) refl refl
  where
    by : (s t : Bool) → is_at (branch_cmp b) q ≡ s → branch_eq b q ≡ t → s ≡ t
    by true true e f = refl
    by false false e f = refl
    by true false e f = absurd (true≢false (sym (branch_eq-refl b) ∙ ap (branch_eq b) (exact_branches b q (equal_is _ e)) ∙ f))
    by false true e f = absurd (true≢false (sym ((eq_by_cmp_equiv branches_total).refl b) ∙ ap (eq_by_cmp branch_cmp b) (branch_eq-true b q f) ∙ e))

-- a greater transaction is another one
pub less_differs : (g h : Gtrid) → gtrid_cmp g h ≡ Less → gtrid_eq h g ≡ false
less_differs g h less = elim (cases_Bool (gtrid_eq h g)) [
  | inl same ↦ (
      let tied : gtrid_cmp g g ≡ Less = ap (gtrid_cmp g) (sym (gtrid_eq-true h g same)) ∙ less in
      let no : Less ≡ Equal = sym tied ∙ tied_itself gtrids_total g in absurd (cc))
  | inr other ↦ other
]

-- what holds of each branch among these holds of all
pub all_among : (P : Branch → Type 0) (bs : List Branch) → ((b : Branch) → list_any (eq_by_cmp branch_cmp b) bs ≡ true → P b) → AllByRecursion P bs
all_among P [] each = tt
all_among P (b ∷ bs) each = (
  each b (or_left _ _ ((eq_by_cmp_equiv branches_total).refl b)),
  all_among P bs (λ c there. each c (or_right (eq_by_cmp branch_cmp c b) _ there)),
)
