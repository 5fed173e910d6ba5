-- Each page goes on where the one before it ended.
use Rattle.std.proofs.Common.{◌≡◌, ℕ, zero, suc, true, false, cond, List, [], ◌∷◌, ◌++◌, Option, Some, None, take, drop, filter, refl, sym, ◌∙◌, ap, subst}
use Rattle.std.specs.Cmp.{IsTotalOrder}
use Rattle.std.specs.List.{AllByRecursion}
use Rattle.std.specs.List.Sorted.{IsStrictlySortedBy}
use Rattle.std.specs.Ordering.{is_lt, ordering_reverse}
use Rattle.std.specs.declared.cmp.Ordering.{Ordering}
use Rattle.std.specs.declared.cmp.Ordering.TheVariants.{Less, Equal, Greater}
use Rattle.std.proofs.lemmas.List.Kept.{IsStrictlySortedBy-filter}
use Rattle.xa_base.specs.Scan.{behind, last_of}

module _ {X : Type 0} {cmp : X → X → Ordering} (o : IsTotalOrder cmp) where
  is_less : (a b : X) → is_lt (cmp a b) ≡ true → cmp a b ≡ Less
  is_less a b e =
      elim (cmp a b) as (λ r. is_lt r ≡ true → r ≡ Less) [
        | Less ↦ λ _. refl
        | Equal ↦ λ h. let no : ⊥ = cc in absurd no
        | Greater ↦ λ h. let no : ⊥ = cc in absurd no
      ] e

  not_less : (a b : X) → cmp a b ≡ Less → is_lt (cmp b a) ≡ false
  not_less a b e = ap is_lt (o.antisymm b a ∙ ap ordering_reverse e)

  not_less_itself : (a : X) → is_lt (cmp a a) ≡ false
  not_less_itself a =
      elim (cmp a a) as (λ r. cmp a a ≡ r → is_lt r ≡ false) [
        | Less ↦ λ e. sym (ap is_lt e) ∙ not_less a a e
        | Equal ↦ λ e. refl
        | Greater ↦ λ e. refl
      ] refl

  -- the last of a list that begins with a
  last_in : X → List X → X
  last_in a [] = a
  last_in a (b ∷ xs) = last_in b xs

  last_of_some : (a : X) (xs : List X) → last_of (Some a) xs ≡ Some (last_in a xs)
  unfolding last_in
  last_of_some a [] = refl
  last_of_some a (b ∷ xs) = last_of_some b xs

  -- what is below all of a list is below its last
  below_last : (p a : X) (xs : List X) → cmp p a ≡ Less → AllByRecursion (λ x. cmp p x ≡ Less) xs → (n : ℕ) → cmp p (last_in a (take n xs)) ≡ Less
  unfolding last_in
  below_last p a xs e all zero = e
  below_last p a [] e all (suc n) = e
  below_last p a (x ∷ xs) e all (suc n) = below_last p x xs all.0 all.1 n

  -- all that is above a stays
  all_above : (a : X) (xs : List X) → AllByRecursion (λ x. cmp a x ≡ Less) xs → filter (λ x. is_lt (cmp a x)) xs ≡ xs
  all_above a [] all = refl
  all_above a (x ∷ xs) all =
      ap (λ t. cond t (x ∷ filter (λ y. is_lt (cmp a y)) xs) (filter (λ y. is_lt (cmp a y)) xs)) (ap is_lt all.0)
      ∙ ap (λ ys. x ∷ ys) (all_above a xs all.1)

  dropped_head : (a b : X) (xs : List X) → is_lt (cmp a b) ≡ false → filter (λ x. is_lt (cmp a x)) (b ∷ xs) ≡ filter (λ x. is_lt (cmp a x)) xs
  dropped_head a b xs e = ap (λ t. cond t (b ∷ filter (λ y. is_lt (cmp a y)) xs) (filter (λ y. is_lt (cmp a y)) xs)) e

  -- after the last of the first elements stand the others
  behind_first : (a : X) (xs : List X) → IsStrictlySortedBy cmp (a ∷ xs) → (n : ℕ)
      → filter (λ x. is_lt (cmp (last_in a (take n xs)) x)) (a ∷ xs) ≡ drop n xs
  unfolding IsStrictlySortedBy last_in
  behind_first a xs s zero = dropped_head a a xs (not_less_itself a) ∙ all_above a xs s.0
  behind_first a [] s (suc n) = dropped_head a a [] (not_less_itself a)
  behind_first a (b ∷ xs) s (suc n) =
      dropped_head (last_in b (take n xs)) a (b ∷ xs) (not_less a (last_in b (take n xs)) (below_last a b xs s.0.0 s.0.1 n))
      ∙ behind_first b xs s.1 n

  not_above : (p l x : X) → cmp p l ≡ Less → is_lt (cmp p x) ≡ false → is_lt (cmp l x) ≡ false
  not_above p l x below e =
      elim (is_lt (cmp l x)) as (λ t. is_lt (cmp l x) ≡ t → t ≡ false) [
        | true ↦ λ h. sym (ap is_lt (o.trans p l x below (is_less l x h))) ∙ e
        | false ↦ λ h. refl
      ] refl

  -- what is above the greater of two is above the lesser
  above_both : (p l : X) → cmp p l ≡ Less → (xs : List X) → filter (λ x. is_lt (cmp l x)) (filter (λ x. is_lt (cmp p x)) xs) ≡ filter (λ x. is_lt (cmp l x)) xs
  above_both p l below [] = refl
  above_both p l below (x ∷ xs) =
      elim (is_lt (cmp p x)) as
      (λ t. is_lt (cmp p x) ≡ t
      → filter (λ y. is_lt (cmp l y)) (cond t (x ∷ filter (λ y. is_lt (cmp p y)) xs) (filter (λ y. is_lt (cmp p y)) xs))
      ≡ filter (λ y. is_lt (cmp l y)) (x ∷ xs)) [
        | true ↦ λ e. ap (λ ys. cond (is_lt (cmp l x)) (x ∷ ys) ys) (above_both p l below xs)
        | false ↦ λ e. above_both p l below xs ∙ sym (dropped_head l x xs (not_above p l x below e))
      ] refl

  all_kept : (p : X) (xs : List X) → AllByRecursion (λ x. cmp p x ≡ Less) (filter (λ x. is_lt (cmp p x)) xs)
  all_kept p [] = tt
  all_kept p (x ∷ xs) =
      elim (is_lt (cmp p x)) as
      (λ t. is_lt (cmp p x) ≡ t → AllByRecursion (λ y. cmp p y ≡ Less) (cond t (x ∷ filter (λ y. is_lt (cmp p y)) xs) (filter (λ y. is_lt (cmp p y)) xs))) [
        | true ↦ λ e. (is_less p x e, all_kept p xs)
        | false ↦ λ e. all_kept p xs
      ] refl

  -- a list in order stays so after a place
  sorted_behind : (place : Option X) (xs : List X) → IsStrictlySortedBy cmp xs → IsStrictlySortedBy cmp (behind cmp place xs)
  sorted_behind None xs s = s
  sorted_behind (Some p) xs s = IsStrictlySortedBy-filter cmp (λ x. is_lt (cmp p x)) xs s

  -- after an element that stands after the place
  further : (place : Option X) (xs : List X) (a : X) (zs : List X) → behind cmp place xs ≡ a ∷ zs → (n : ℕ)
      → behind cmp (Some (last_in a (take n zs))) (behind cmp place xs) ≡ behind cmp (Some (last_in a (take n zs))) xs
  further None xs a zs e n = refl
  further (Some p) xs a zs e n =
      let all = subst (AllByRecursion (λ x. cmp p x ≡ Less)) e (all_kept p xs) in
      above_both p (last_in a (take n zs)) (below_last p a zs all.0 all.1 n) xs

  rest_behind : (place : Option X) (xs ys : List X) → behind cmp place xs ≡ ys → IsStrictlySortedBy cmp ys → (n : ℕ)
      → behind cmp (last_of place (take n ys)) xs ≡ drop n ys
  unfolding last_in
  rest_behind place xs ys e s zero = e
  rest_behind place xs [] e s (suc n) = e
  rest_behind place xs (a ∷ zs) e s (suc n) =
      ap (λ l. behind cmp l xs) (last_of_some a (take n zs))
      ∙ sym (further place xs a zs e n)
      ∙ ap (behind cmp (Some (last_in a (take n zs)))) e
      ∙ behind_first a zs s n

  taken_dropped : (n : ℕ) (xs : List X) → take n xs ++ drop n xs ≡ xs
  taken_dropped zero xs = refl
  taken_dropped (suc n) [] = refl
  taken_dropped (suc n) (x ∷ xs) = ap (λ ys. x ∷ ys) (taken_dropped n xs)

  -- a page, and what is after it, is what was after its start
  pub page_and_rest : (place : Option X) (xs : List X) → IsStrictlySortedBy cmp xs → (n : ℕ)
      → take n (behind cmp place xs) ++ behind cmp (last_of place (take n (behind cmp place xs))) xs ≡ behind cmp place xs
  page_and_rest place xs s n =
      ap (λ ys. take n (behind cmp place xs) ++ ys) (rest_behind place xs (behind cmp place xs) refl (sorted_behind place xs s) n)
      ∙ taken_dropped n (behind cmp place xs)
