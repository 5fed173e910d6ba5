-- Lists of entries whose keys rise, as maps and sets give them.
use Rattle.std.proofs.Common.{◌≡◌, inl, inr, List, [], ◌∷◌, map, true, false, Bool, ◌&&◌, T, cond, Some, None, is_eq, is_lt, refl, sym, ap, subst, ◌∙◌, Ordering, Less, Equal, Greater}
use Rattle.std.specs.Ordering.{eq_by_cmp}
use Rattle.std.specs.Cmp.{IsTotalOrder, tied_itself}
use Rattle.std.specs.List.{AllByRecursion}
use Rattle.std.specs.List.Sorted.{IsStrictlySortedBy}
use Rattle.std.specs.FinMap.{IsAntisymmetric, find, is_sorted}
use Rattle.std.proofs.lemmas.Bool.{cases_Bool}
use Rattle.xa_base.proofs.Orders.{equal_is}

pub less : (o : Ordering) → T (is_lt o) → o ≡ Less
less Less h = refl
less Equal h = absurd h
less Greater h = absurd h

later : (a b : Bool) → T (a && b) → T b
later true b h = h
later false b h = absurd h

joined : (a b c d : Bool) → T a → T (b && d) → T (c && d) → T ((a && b) && (c && d))
joined true true c d p q r = r
joined true false c d p q r = absurd q
joined false b c d p q r = absurd p

parted : (a b c d : Bool) → T ((a && b) && (c && d)) → T a × T (b && d)
parted true true true d h = (tt, h)
parted true true false d h = absurd h
parted true false c d h = absurd h
parted false b c d h = absurd h

abbrev key_of : {K X : Type 0} → K × X → K
key_of e = e.0

module _ {K X : Type 0} (R : K → K → Ordering) where
  -- an entry comes before those that rise, and below them
  goes_first : (x : K) (v : X) (es : List (K × X)) → AllByRecursion (λ y. R x y ≡ Less) (map key_of es)
      → T (is_sorted R es) → T (is_sorted R ((x, v) ∷ es))
  goes_first x v [] all up = tt
  goes_first x v (e ∷ es) all up = joined (is_lt (R x e.0)) _ _ _ (subst (λ r. T (is_lt r)) (sym all.0) tt) (goes_first x v es all.1 (later _ _ up)) up

  stands_first : (x : K) (v : X) (es : List (K × X)) → T (is_sorted R ((x, v) ∷ es)) → AllByRecursion (λ y. R x y ≡ Less) (map key_of es)
  stands_first x v [] up = tt
  stands_first x v (e ∷ es) up = let parts = parted (is_lt (R x e.0)) _ _ _ up in (less _ parts.0, stands_first x v es parts.1)

  pub rising : (es : List (K × X)) → IsStrictlySortedBy R (map (λ (e : K × X). e.0) es) → T (is_sorted R es)
  unfolding IsStrictlySortedBy
  rising [] up = tt
  rising (e ∷ es) up = goes_first e.0 e.1 es up.0 (rising es up.1)

  pub risen : (es : List (K × X)) → T (is_sorted R es) → IsStrictlySortedBy R (map (λ (e : K × X). e.0) es)
  unfolding IsStrictlySortedBy
  risen [] up = tt
  risen (e ∷ es) up = (stands_first e.0 e.1 es up, risen es (later _ _ up))

module _ {K X : Type 0} {R : K → K → Ordering} (o : IsTotalOrder R) (exact : IsAntisymmetric R) where
  -- what is found among entries that lie above a key lies above it
  found_above : (x q : K) (v : X) (es : List (K × X)) → AllByRecursion (λ y. R x y ≡ Less) (map key_of es) → find R q es ≡ Some v → R x q ≡ Less
  found_above x q v [] all is = absurd (let no : None ≡ Some v = is in cc)
  found_above x q v (e ∷ es) all is = elim (cases_Bool (eq_by_cmp R q e.0)) [
    | inl same ↦ subst (λ k. R x k ≡ Less) (sym (exact q e.0 (equal_is _ same))) all.0
    | inr apart ↦ found_above x q v es all.1 (sym (ap (λ b. cond b (Some e.1) (find R q es)) apart) ∙ is)
  ]

  -- what holds of all that is found in the entries of a map holds of each of them
  pub all_entries : (P : K × X → Type 0) (es : List (K × X)) → T (is_sorted R es)
      → ((k : K) (v : X) → find R k es ≡ Some v → P (k, v)) → AllByRecursion P es
  all_entries P [] up each = tt
  all_entries P (e ∷ es) up each = (each e.0 e.1 first, all_entries P es (later _ _ up) (λ k v is. each k v (passed k v is)))
    where
      first : find R e.0 (e ∷ es) ≡ Some e.1
      first = ap (λ b. cond b (Some e.1) (find R e.0 es)) (ap is_eq (tied_itself o e.0))

      passed : (k : K) (v : X) → find R k es ≡ Some v → find R k (e ∷ es) ≡ Some v
      passed k v is = elim (cases_Bool (eq_by_cmp R k e.0)) [
        | inl same ↦ absurd (
            let above : R e.0 k ≡ Less = found_above e.0 k v es (stands_first R e.0 e.1 es up) is in
            let own : R e.0 e.0 ≡ Less = subst (λ x. R e.0 x ≡ Less) (exact k e.0 (equal_is _ same)) above in
            let tie = sym (tied_itself o e.0) ∙ own in
            cc)
        | inr apart ↦ ap (λ b. cond b (Some e.1) (find R k es)) apart ∙ is
      ]
