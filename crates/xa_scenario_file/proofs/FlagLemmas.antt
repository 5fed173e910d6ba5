-- The flags of the items met so far, together with those of the items that are left.
use Rattle.std.proofs.Common.{◌≡◌, ◌∙◌, ℕ, false, ◌||◌, List, ◌∷◌, Option, Some, None, option_map, refl, ap, sym}
use Rattle.std.specs.Prelude.{bit_or, option_and_then}
use Rattle.std.specs.List.{list_any}
use Rattle.toml.specs.Data.{Data, Items, item, as_str}
use Rattle.toml.specs.View.{view, items_view}
use Rattle.toml.specs.declared.value.Value.{Value}
use Rattle.std.proofs.Common.{arith, []}
use Rattle.std.specs.Int.Bits.{or_zero_r}
use Rattle.std.proofs.lemmas.Nat.Bits.{same_from_bits, bit_at_or}
use Rattle.xa_files.specs.Words.{flag_named}
use Rattle.xa_scenario_file.specs.Flags.{is_text, holds_text, flags_of}

pub holds_text-view : (text : List ℕ) (vs : List Value) → list_any (λ v. is_text text (view v)) vs ≡ holds_text text (items_view vs)
holds_text-view text [] = refl
holds_text-view text (v ∷ vs) = ap (λ b. is_text text (view v) || b) (holds_text-view text vs)

abbrev pub with_flags : ℕ → Option ℕ → Option ℕ
with_flags flags more = option_map (bit_or flags) more

or_assoc : (a b c : ℕ) → bit_or a (bit_or b c) ≡ bit_or (bit_or a b) c
or_assoc a b c = same_from_bits _ _ (λ i. rw (bit_at_or a (bit_or b c) i, bit_at_or b c i, bit_at_or (bit_or a b) c i, bit_at_or a b i) (omega arith))

joined : (flags flag : ℕ) (more : Option ℕ)
    → with_flags flags (option_and_then (λ others. Some (bit_or flag others)) more) ≡ with_flags (bit_or flags flag) more
joined flags flag None = refl
joined flags flag (Some n) = ap Some (or_assoc flags flag n)

-- an item that names a flag of its own
pub flag_goes_on : (flags flag : ℕ) (word : List ℕ) (d : Data) (ds : Items) (all : Option ℕ)
    → as_str d ≡ Some word → flag_named word ≡ Some flag → holds_text word ds ≡ false
    → with_flags flags (flags_of (item d ds)) ≡ all → with_flags (bit_or flags flag) (flags_of ds) ≡ all
flag_goes_on flags flag word d ds all text named once so_far =
    let step : flags_of (item d ds) ≡ option_and_then (λ others. Some (bit_or flag others)) (flags_of ds) = rw (text, named, once) refl in
    sym (joined flags flag (flags_of ds)) ∙ ap (with_flags flags) (sym step) ∙ so_far

-- no item is left
pub ends : (flags : ℕ) (all : Option ℕ) → with_flags flags (Some 0) ≡ all → Some flags ≡ all
ends flags all so_far = ap Some (sym (or_zero_r flags)) ∙ so_far
