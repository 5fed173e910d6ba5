-- Finite sets of keys, as std's maps with nothing at each key. Unlike those of std's own finite sets, the items are known to be in
-- order.
use Rattle.std.specs.Prelude.{◌≡◌, Bool, true, false, cond, ◌||◌, List, [], ◌∷◌, ◌++◌, Option, Some, None, is_some}
use Rattle.std.proofs.Common.{Ordering, refl, sym, ap, ◌∙◌}
use Rattle.std.specs.Ordering.{eq_by_cmp}
use Rattle.std.specs.Cmp.{IsTotalOrder}
use Rattle.std.specs.List.{list_any}
use Rattle.std.specs.FinMap as map

-- a set of keys in the order R
abbrev pub KeySet : {K : Type 0} → (K → K → Ordering) → Type 0
KeySet R = map.FinMap R (Unit {0})

module _ {K : Type 0} {R : K → K → Ordering} where
  unfoldable pub empty : KeySet R
  empty = map.empty

  unfoldable pub contains : KeySet R → K → Bool
  contains s q = map.contains_key s q

  unfoldable pub insert : KeySet R → K → KeySet R
  insert s k = map.insert s k tt

  -- in the order of R
  unfoldable pub items : KeySet R → List K
  items s = map.keys s

  abbrev pub from_list : List K → KeySet R
  from_list [] = empty
  from_list (k ∷ ks) = insert (from_list ks) k

  pub contains-items : (s : KeySet R) (q : K) → contains s q ≡ list_any (eq_by_cmp R q) (items s)
  unfolding contains items
  contains-items s q = map.contains_key-keys s q

pub contains-empty : {K : Type 0} (R : K → K → Ordering) (q : K) → contains (empty {R = R}) q ≡ false
unfolding contains empty
contains-empty R q = ap is_some (map.get-empty R q)

abbrev marked : Bool → Option (Unit {0})
marked b = cond b (Some tt) None

marks : (x : Option (Unit {0})) → x ≡ marked (is_some x)
marks None = refl
marks (Some u) = refl

either : (b : Bool) (x : Option (Unit {0})) → is_some (cond b (Some tt) x) ≡ (b || is_some x)
either true x = refl
either false x = refl

swapped : (a b c : Bool) → (a || (b || c)) ≡ (b || (a || c))
swapped true true c = refl
swapped true false c = refl
swapped false b c = refl

any_push : {K : Type 0} (p : K → Bool) (ks : List K) (k : K) → list_any p (ks ++ k ∷ []) ≡ (p k || list_any p ks)
any_push p [] k = refl
any_push p (x ∷ ks) k = ap (λ b. p x || b) (any_push p ks k) ∙ swapped (p x) (p k) _

module _ {K : Type 0} {R : K → K → Ordering} (o : IsTotalOrder R) where
  pub contains-insert : (s : KeySet R) (k q : K) → contains (insert s k) q ≡ (eq_by_cmp R q k || contains s q)
  unfolding contains insert
  contains-insert s k q = ap is_some (map.get-insert o s k tt q) ∙ either _ _

  pub contains-from_list : (ks : List K) (q : K) → contains (from_list {R = R} ks) q ≡ list_any (eq_by_cmp R q) ks
  contains-from_list [] q = contains-empty R q
  contains-from_list (k ∷ ks) q = contains-insert _ k q ∙ ap (λ b. eq_by_cmp R q k || b) (contains-from_list ks q)

  pub same_set : map.IsAntisymmetric R → (s t : KeySet R) → ((q : K) → contains s q ≡ contains t q) → s ≡ t
  unfolding contains
  same_set exact s t is = map.same_map o exact s t (λ q. marks _ ∙ ap marked (is q) ∙ sym (marks _))

  pub from_list_push : map.IsAntisymmetric R → (ks : List K) (k : K) → from_list {R = R} (ks ++ k ∷ []) ≡ insert (from_list ks) k
  from_list_push exact ks k = same_set exact _ _ (λ q.
      contains-from_list _ q ∙ any_push (eq_by_cmp R q) ks k ∙ sym (contains-insert _ k q ∙ ap (λ b. eq_by_cmp R q k || b) (contains-from_list ks q)))
