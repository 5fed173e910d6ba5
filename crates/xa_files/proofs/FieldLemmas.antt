-- What a map of the reader and the members that it stands for have in common.
use Rattle.std.proofs.Common.{◌≡◌, ℕ, Bool, true, false, cond, ◌&&◌, not, List, [], ◌∷◌, map, Option, Some, is_none, String, Global, string_bytes, refl, ap, sym, ◌∙◌}
use Rattle.std.specs.List.{find, list_all}
use Rattle.std.specs.Option.{option_map}
use Rattle.std.specs.Map.{keys_of as keys_of_entries}
use Rattle.toml.specs.View.{members_view}
use Rattle.toml.specs.declared.value.Value.{Value}
use Rattle.xa_files.specs.Fields.{is_text_among, keys_of}
use Rattle.xa_files.specs.Findings.{first_other}

abbrev pub Member : Type 0
Member = String Global × Value

-- the keys of a table are the texts of the map's keys
pub keys_of-view : (es : List Member) → keys_of (members_view es) ≡ map string_bytes (keys_of_entries es)
keys_of-view [] = refl
keys_of-view (e ∷ es) = ap (λ ks. string_bytes e.0 ∷ ks) (keys_of-view es)

-- each element passes a test exactly if none is found that doesn't
pub is_none-find : {A : Type 0} (p : A → Bool) (xs : List A) → is_none (find (λ x. not (p x)) xs) ≡ list_all p xs
is_none-find p [] = refl
is_none-find p (x ∷ xs) =
    elim (p x) as (λ b. is_none (cond (not b) (Some x) (find (λ y. not (p y)) xs)) ≡ (b && list_all p xs)) [ true ↦ is_none-find p xs | false ↦ refl ]

-- what is found among images is the image of what is found
pub find-map : {A B : Type 0} (f : A → B) (q : B → Bool) (xs : List A) → find q (map f xs) ≡ option_map f (find (λ x. q (f x)) xs)
find-map f q [] = refl
find-map f q (x ∷ xs) =
    elim (q (f x)) as (λ b. cond b (Some (f x)) (find q (map f xs)) ≡ option_map f (cond b (Some x) (find (λ y. q (f y)) xs)))
    [ true ↦ refl | false ↦ find-map f q xs ]

-- the first key of the map that is none of these is that of its members
pub first_found : (keys : List (List ℕ)) (es : List Member) (found : Option (String Global))
    → found ≡ find (λ key. not (is_text_among keys (string_bytes key))) (keys_of_entries es)
    → option_map string_bytes found ≡ first_other keys (members_view es)
first_found keys es found is =
    ap (option_map string_bytes) is ∙ sym (find-map string_bytes (λ key. not (is_text_among keys key)) (keys_of_entries es))
    ∙ ap (find (λ key. not (is_text_among keys key))) (sym (keys_of-view es))
