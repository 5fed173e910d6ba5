-- A map or a set that is made of entries or keys in order has just these.
use Rattle.std.proofs.Common.{◌≡◌, List, [], ◌∷◌, map, Ordering, Less, length, arith, refl, sym, ap, subst, ◌∙◌}
use Rattle.std.specs.Cmp.{IsTotalOrder}
use Rattle.std.specs.List.{AllByRecursion}
use Rattle.std.specs.List.Sorted.{IsStrictlySortedBy}
use Rattle.std.specs.Map.{keys_of}
use Rattle.std.specs.FinMap as entry
use Rattle.std.specs.FinMap.{entries, put, from_entries}
use Rattle.xa_log.specs.KeySet.{empty, insert, items, from_list}

no_length : {A : Type 0} (xs : List A) → length xs ≡ 0 → xs ≡ []
no_length [] e = refl
no_length (x ∷ xs) e = absurd (omega arith)

abbrev IsBelow : {K : Type 0} → (K → K → Ordering) → K → List K → Type 0
IsBelow R k ks = AllByRecursion (λ y. R k y ≡ Less) ks

abbrev units : {K : Type 0} → List K → List (K × Unit {0})
units ks = map (λ k. (k, tt)) ks

keys_units : {K : Type 0} (ks : List K) → keys_of (units ks) ≡ ks
keys_units [] = refl
keys_units (k ∷ ks) = ap (λ l. k ∷ l) (keys_units ks)

module _ {K X : Type 0} {R : K → K → Ordering} (o : IsTotalOrder R) where
  put_first : (k : K) (v : X) (es : List (K × X)) → IsBelow R k (keys_of es) → put R k v es ≡ (k, v) ∷ es
  put_first k v [] below = refl
  put_first k v (x ∷ xs) below = rw (below.0) refl

  -- the map of entries in order has those entries
  pub entries-from_entries : (es : List (K × X)) → IsStrictlySortedBy R (keys_of es) → entries (from_entries {R = R} es) ≡ es
  unfolding IsStrictlySortedBy
  entries-from_entries [] up = no_length (entries entry.empty) (sym (entry.len-entries entry.empty) ∙ entry.len-empty R X)
  entries-from_entries (e ∷ es) up =
      entry.entries-insert o (from_entries es) e.0 e.1 ∙ ap (put R e.0 e.1) (entries-from_entries es up.1) ∙ put_first e.0 e.1 es up.0

module _ {K : Type 0} {R : K → K → Ordering} (o : IsTotalOrder R) where
  as_units : (ks : List K) → from_list {R = R} ks ≡ from_entries (units ks)
  unfolding empty insert
  as_units [] = refl
  as_units (k ∷ ks) = ap (λ s. entry.insert s k tt) (as_units ks)

  -- the set of keys in order has those items
  pub items-from_list : (ks : List K) → IsStrictlySortedBy R ks → items (from_list {R = R} ks) ≡ ks
  unfolding items
  items-from_list ks up =
      ap entry.keys (as_units ks) ∙ ap keys_of (entries-from_entries o (units ks) (subst (IsStrictlySortedBy R) (sym (keys_units ks)) up)) ∙ keys_units ks
