-- The ends of the lines, one line more.
use Rattle.std.proofs.Common.{◌≡◌, ℕ, zero, suc, ◌+◌, List, [], ◌∷◌, ◌++◌, Some, length, ⊎_elim, sym, subst, arith}
use Rattle.std.specs.Prelude.{IsSomeAnd, slice_get}
use Rattle.std.proofs.lemmas.List.{length-append}
use Rattle.std.proofs.lemmas.Option.{same_Some}
use Rattle.xa_base.proofs.Lists.{get_append}
use Rattle.xa_line.specs.Ends.{AreEndsOfOne}
use Rattle.xa_line.specs.declared.issuer.Issuer.{Issuer}
use Rattle.xa_line.specs.declared.taker.Taker.{Taker}
use Rattle.xa_workers.specs.EndPairs.{ArePaired, IsIssuerOf}

some_left : {X : Type 0} (P : X → Type 0) (xs ys : List X) (k : ℕ) → IsSomeAnd (slice_get xs k) P → IsSomeAnd (slice_get (xs ++ ys) k) P
some_left P [] ys k h = absurd h
some_left P (x ∷ xs) ys zero h = h
some_left P (x ∷ xs) ys (suc k) h = some_left P xs ys k h

some_last : {X : Type 0} (P : X → Type 0) (xs : List X) (x : X) → P x → IsSomeAnd (slice_get (xs ++ x ∷ []) (length xs)) P
some_last P [] x h = h
some_last P (y ∷ xs) x h = some_last P xs x h

last_issuer : (ts : List Taker) (i : Issuer) (t : Taker) → AreEndsOfOne i t → (n k j : ℕ) (x : Issuer) → n ≡ length ts → k ≡ n + j
    → slice_get (i ∷ []) j ≡ Some x → IsIssuerOf (ts ++ t ∷ []) k x
last_issuer ts i t pair n k zero x count at found =
    let here : k ≡ length ts = omega arith in
    subst (λ (y : Issuer). IsIssuerOf (ts ++ t ∷ []) k y) (same_Some _ _ found)
    (subst (λ (m : ℕ). IsIssuerOf (ts ++ t ∷ []) m i) (sym here) (some_last (λ first. AreEndsOfOne i first) ts t pair))
last_issuer ts i t pair n k (suc j) x count at found = absurd (cc)

pub paired_more : (is : List Issuer) (ts : List Taker) (i : Issuer) (t : Taker) → ArePaired is ts → AreEndsOfOne i t → ArePaired (is ++ i ∷ []) (ts ++ t ∷ [])
paired_more is ts i t had pair = record {
  number = let n = had.number in omega (arith, length-append is (i ∷ []), length-append ts (t ∷ []));
  each = λ k x at.
      ⊎_elim (λ (old : slice_get is k ≡ Some x). some_left (λ first. AreEndsOfOne x first) ts (t ∷ []) k (had.each k x old))
      (λ (new : (j : ℕ) × (k ≡ length is + j) × (slice_get (i ∷ []) j ≡ Some x)). last_issuer ts i t pair (length is) k new.0 x had.number new.1 new.2)
      (get_append is (i ∷ []) k x at);
}
