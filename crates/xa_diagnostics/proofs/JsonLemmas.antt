-- Texts in quotes, and items that are joined.
use Rattle.std.proofs.Common.{◌≡◌, ◌∙◌, ℕ, List, [], ◌∷◌, ◌++◌, map, refl, sym, ap, append-nil, append_assoc}
use Rattle.std.proofs.lemmas.List.{map-id}
use Rattle.std.specs.List.{flat_map, join_by, join_with_byte}
use Rattle.std.specs.Str.{chars}
use Rattle.xa_diagnostics.specs.Json.{escaped, item_in, items_in, quoted}
use Rattle.xa_diagnostics.specs.declared.json.Item.{Item}

-- all characters of a text, escaped, and then the quote that ends it
pub all_escaped : (text told yielded : List ℕ) → map (λ c. c) yielded ≡ chars text
    → told ≡ (34 ∷ []) ++ flat_map escaped yielded → told ++ (34 ∷ []) ≡ quoted text
unfolding quoted
all_escaped text told yielded all so_far =
    ap (λ (t : List ℕ). t ++ (34 ∷ [])) so_far
    ∙ ap (λ (cs : List ℕ). (34 ∷ []) ++ flat_map escaped cs ++ (34 ∷ [])) (sym (map-id yielded) ∙ all)

pub joined : {X : Type 0} (f : X → List ℕ) (xs : List X) → join_by f (44 ∷ []) xs ≡ join_with_byte 44 (map f xs)
joined f [] = refl
joined f (x ∷ []) = append-nil (f x)
joined f (x ∷ y ∷ xs) = ap (λ (t : List ℕ). f x ++ (44 ∷ t)) (joined f (y ∷ xs))

-- the items of lines, and of what the lines are
pub items_seen : {X : Type 0} (item : Item) (f : X → List ℕ) (xs : List X) → flat_map (λ x. item_in item (f x)) xs ≡ items_in item (map f xs)
unfolding items_in
items_seen item f [] = refl
items_seen item f (x ∷ xs) = ap (λ (ys : List (List ℕ)). item_in item (f x) ++ ys) (items_seen item f xs)

-- ** a format with holes, its pieces grouped from the right

pub pieces_2 : (a b c d e : List ℕ) → a ++ (b ++ (c ++ (d ++ e))) ≡ a ++ b ++ c ++ d ++ e
pieces_2 a b c d e = simp append_assoc

pub pieces_4 : (a b c d e f g h i : List ℕ)
    → a ++ (b ++ (c ++ (d ++ (e ++ (f ++ (g ++ (h ++ i))))))) ≡ a ++ b ++ c ++ d ++ e ++ f ++ g ++ h ++ i
pieces_4 a b c d e f g h i = simp append_assoc

pub pieces_5 : (a b c d e f g h i j k : List ℕ)
    → a ++ (b ++ (c ++ (d ++ (e ++ (f ++ (g ++ (h ++ (i ++ (j ++ k))))))))) ≡ a ++ b ++ c ++ d ++ e ++ f ++ g ++ h ++ i ++ j ++ k
pieces_5 a b c d e f g h i j k = simp append_assoc

-- the lines that a slice shows
pub shown : {X : Type 0} (now : X → List ℕ) (slice items : List X) (all : List (List ℕ)) → slice ≡ items → map now items ≡ all → map now slice ≡ all
shown now slice items all are is = ap (map now) are ∙ is

-- the same with what stands in the holes
pub text_4 : {b d f h b' d' f' h' t : List ℕ} (a c e g i : List ℕ) → b ≡ b' → d ≡ d' → f ≡ f' → h ≡ h'
    → t ≡ a ++ (b ++ (c ++ (d ++ (e ++ (f ++ (g ++ (h ++ i))))))) → t ≡ a ++ b' ++ c ++ d' ++ e ++ f' ++ g ++ h' ++ i
text_4 {b' = b'} {d' = d'} {f' = f'} {h' = h'} a c e g i p q r s is = let e = pieces_4 a b' c d' e f' g h' i in cc

pub text_5 : {b d f h j b' d' f' h' j' t : List ℕ} (a c e g i k : List ℕ) → b ≡ b' → d ≡ d' → f ≡ f' → h ≡ h' → j ≡ j'
    → t ≡ a ++ (b ++ (c ++ (d ++ (e ++ (f ++ (g ++ (h ++ (i ++ (j ++ k))))))))) → t ≡ a ++ b' ++ c ++ d' ++ e ++ f' ++ g ++ h' ++ i ++ j' ++ k
text_5 {b' = b'} {d' = d'} {f' = f'} {h' = h'} {j' = j'} a c e g i k p q r s v is = let w = pieces_5 a b' c d' e f' g h' i j' k in cc
