-- Items of a longer list, and what holds of each item.
use Rattle.std.proofs.Common.{◌≡◌, ℕ, zero, suc, ◌+◌, List, [], ◌∷◌, ◌++◌, length, map, Bool, true, false, ◌||◌, None, refl, ap, arith, ◌⊎◌}
use Rattle.std.specs.List.{AllByRecursion, list_any}
use Rattle.std.specs.Prelude.{if◌then◌else◌, Some, slice_get}
use mathlib.Core.Logic.{◌⊎◌.inl, ◌⊎◌.inr}

-- an item of xs ++ ys is one of xs at the same place, or the i-th of ys after them
pub get_append : {X : Type 0} (xs ys : List X) (k : ℕ) (x : X) → slice_get (xs ++ ys) k ≡ Some x
    → (slice_get xs k ≡ Some x) ⊎ ((i : ℕ) × (k ≡ length xs + i) × (slice_get ys i ≡ Some x))
get_append [] ys k x e = inr (k, omega arith, e)
get_append (y ∷ xs) ys zero x e = inl e
get_append (y ∷ xs) ys (suc k) x e = shift (get_append xs ys k x e)
  where
    shift : (slice_get xs k ≡ Some x) ⊎ ((i : ℕ) × (k ≡ length xs + i) × (slice_get ys i ≡ Some x))
        → (slice_get xs k ≡ Some x) ⊎ ((i : ℕ) × (suc k ≡ length (y ∷ xs) + i) × (slice_get ys i ≡ Some x))
    shift (inl h) = inl h
    shift (inr h) = let e : k ≡ length xs + h.0 = h.1 in inr (h.0, omega arith, h.2)

-- the only item of a list of one or none
pub get_if : {X : Type 0} (t : Bool) (y : X) (k : ℕ) (x : X) → slice_get (if t then y ∷ [] else []) k ≡ Some x → (t ≡ true) × (k ≡ 0) × (y ≡ x)
get_if true y zero x e = (refl, refl, cc)
get_if true y (suc k) x e = cc
get_if false y k x e = cc

pub get_none : {X : Type 0} (k : ℕ) (x : X) → slice_get [] k ≡ Some x → ⊥
get_none k x e = cc

pub none_first : {X : Type 0} (xs : List X) → None ≡ slice_get xs 0 → xs ≡ []
none_first [] e = refl
none_first (x ∷ xs) e = absurd (cc)

-- ** each item, and any

pub all_append : {X : Type 0} (P : X → Type 0) (xs ys : List X) → AllByRecursion P xs → AllByRecursion P ys → AllByRecursion P (xs ++ ys)
all_append P [] ys first second = second
all_append P (x ∷ xs) ys first second = (first.0, all_append P xs ys first.1 second)

pub all_map : {X : Type 0} (P Q : X → Type 0) → ((x : X) → P x → Q x) → (xs : List X) → AllByRecursion P xs → AllByRecursion Q xs
all_map P Q f [] all = tt
all_map P Q f (x ∷ xs) all = (f x all.0, all_map P Q f xs all.1)

pub list_any-map : {X Y : Type 0} (p : Y → Bool) (f : X → Y) (xs : List X) → list_any p (map f xs) ≡ list_any (λ x. p (f x)) xs
list_any-map p f [] = refl
list_any-map p f (x ∷ xs) = ap (λ b. p (f x) || b) (list_any-map p f xs)
