-- Lists of the same branches are the same sets.
use Rattle.std.proofs.Common.{◌≡◌, List, [], ◌∷◌, Bool, true, false, ◌||◌, refl, sym, ap, ◌∙◌}
use Rattle.std.specs.List.{list_all, list_any}
use Rattle.std.proofs.lemmas.Bool.{and_from, and_parts, or_left, or_right}
use Rattle.std.specs.Cmp.{both_ways}
use Rattle.xa_base.specs.Branch.{branch_cmp, branch_eq}
use Rattle.xa_base.specs.declared.branch.Branch.{Branch}
use Rattle.xa_base.proofs.BranchOrder.{branches_total, exact_branches}
use Rattle.xa_base.proofs.BranchKeys.{branch_eq-refl, branch_eq-true}
use Rattle.xa_base.proofs.Orders.{branch_swap}
use Rattle.xa_log.specs.KeySet.{contains, contains-from_list, from_list, same_set}
use Rattle.xa_tm.specs.Swaps.{is_branch_among, same_branches}

among_is : (q : Branch) (bs : List Branch) → contains (from_list {R = branch_cmp} bs) q ≡ is_branch_among q bs
among_is q bs = contains-from_list branches_total bs q ∙ ap (λ (p : Branch → Bool). list_any p bs) (λ i. λ c. branch_swap c q i)

-- what is so of each of them is so of one among them
at_one : (p : Branch → Bool) (q : Branch) (bs : List Branch) → list_all p bs ≡ true → is_branch_among q bs ≡ true → p q ≡ true
at_one p q [] all has = absurd (cc)
at_one p q (b ∷ bs) all has =
    let parts = and_parts (p b) (list_all p bs) all in
    by (branch_eq b q) refl parts.0 has (at_one p q bs parts.1)
  where
    by : (t : Bool) → branch_eq b q ≡ t → p b ≡ true → (branch_eq b q || is_branch_among q bs) ≡ true → (is_branch_among q bs ≡ true → p q ≡ true) → p q ≡ true
    by true same passes has rest = ap p (sym (branch_eq-true b q same)) ∙ passes
    by false other passes has rest = rest (ap (λ t. t || is_branch_among q bs) (sym other) ∙ has)

at_each : (p : Branch → Bool) (bs : List Branch) → ((q : Branch) → is_branch_among q bs ≡ true → p q ≡ true) → list_all p bs ≡ true
at_each p [] each = refl
at_each p (b ∷ bs) each =
    and_from (p b) (list_all p bs) (each b (or_left (branch_eq b b) (is_branch_among b bs) (branch_eq-refl b)))
    (at_each p bs (λ q has. each q (or_right (branch_eq b q) (is_branch_among q bs) has)))

pub sets_are : (bs cs : List Branch) → same_branches bs cs ≡ true → from_list {R = branch_cmp} bs ≡ from_list cs
sets_are bs cs e =
    let parts = and_parts _ _ e in
    same_set branches_total exact_branches (from_list bs) (from_list cs) (λ q. among_is q bs
    ∙ both_ways (is_branch_among q bs) (is_branch_among q cs) (at_one (λ b. is_branch_among b cs) q bs parts.0)
    (at_one (λ c. is_branch_among c bs) q cs parts.1)
    ∙ sym (among_is q cs))

pub sets_back : (bs cs : List Branch) → from_list {R = branch_cmp} bs ≡ from_list cs → same_branches bs cs ≡ true
sets_back bs cs e =
    and_from _ _ (at_each (λ b. is_branch_among b cs) bs (λ q has. sym (same q) ∙ has)) (at_each (λ c. is_branch_among c bs) cs (λ q has. same q ∙ has))
  where
    same : (q : Branch) → is_branch_among q bs ≡ is_branch_among q cs
    same q = sym (among_is q bs) ∙ ap (λ s. contains s q) e ∙ among_is q cs
