-- What is found of the resource managers one after another.
use Rattle.std.proofs.Common.{◌≡◌, ◌≤◌, ◌<◌, ◌+◌, inl, inr, ℕ, List, length, sym, ap, subst, ◌∙◌, arith}
use Rattle.std.specs.Prelude.{Some, slice_get}
use Rattle.std.proofs.lemmas.Bool.{cases_lt}
use Rattle.std.proofs.lemmas.Option.{slice_get_within}

-- it holds of those so far, and of one more
module _ {X : Type 0} (P : ℕ → X → Type 0) where
  abbrev pub HoldsBelow : List X → ℕ → Type 0
  HoldsBelow xs n = (r : ℕ) (x : X) → slice_get xs r ≡ Some x → r < n → P r x

  pub below_more : (xs : List X) (n : ℕ) (x : X) → HoldsBelow xs n → slice_get xs n ≡ Some x → P n x → HoldsBelow xs (n + 1)
  below_more xs n x below at is r y there lt = elim (cases_lt r n) [
    | inl less ↦ below r y there less
    | inr more ↦ (
        let same : n ≡ r = omega arith in
        let one : Some x ≡ Some y = sym at ∙ ap (slice_get xs) same ∙ there in
        let is_same : x ≡ y = cc in
        subst (λ k. P k y) same (subst (P n) is_same is))
  ]

  pub below_all : (xs : List X) (n : ℕ) → length xs ≤ n → HoldsBelow xs n → (r : ℕ) (x : X) → slice_get xs r ≡ Some x → P r x
  below_all xs n past below r x at = below r x at (let within = slice_get_within xs r x at in omega (arith, within, past))
