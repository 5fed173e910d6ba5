-- What words name, in turn: what was named so far, together with what is named by the words that
-- are left.
use Rattle.std.proofs.Common.{◌≡◌, ◌∙◌, ℕ, ◌+◌, ◌<◌, ◌≤◌, List, [], ◌∷◌, ◌++◌, map, length, get_or, drop, Option, Some, None, option_map, refl, sym, ap, append_assoc, append-nil, drop_of_length-le, drop-cons, add-one}
use Rattle.std.specs.Borrow.{Bor}
use Rattle.std.specs.Prelude.{option_and_then}
use Rattle.xa_requests.specs.Names.{each_named}
use Rattle.xa_requests.specs.Words.{Word}

abbrev pub texts : List (Bor (List ℕ)) → List Word
texts words = map (λ word. word.now) words

module _ {A : Type 0} (named : Word → Option A) where
  abbrev pub with_front : List A → Option (List A) → Option (List A)
  with_front front more = option_map (λ others. front ++ others) more

  front_more : (front : List A) (first : A) (more : Option (List A))
      → with_front front (option_and_then (λ others. Some (first ∷ others)) more) ≡ with_front (front ++ first ∷ []) more
  front_more front first None = refl
  front_more front first (Some others) = ap Some (sym (append_assoc front (first ∷ []) others))

  at_word : (words : List (Bor (List ℕ))) (i : ℕ) (d : Bor (List ℕ)) → i < length words
      → each_named named (texts (drop i words)) ≡ each_named named ((get_or words i d).now ∷ texts (drop (i + 1) words))
  at_word words i d within =
      let step : drop i words ≡ get_or words i d ∷ drop (i + 1) words = rw (add-one, drop-cons words i d) in
      ap (λ ws. each_named named (texts ws)) step

  pub goes_on : (front : List A) (first : A) (words : List (Bor (List ℕ))) (i : ℕ) (d : Bor (List ℕ)) (all : Option (List A))
      → i < length words → named (get_or words i d).now ≡ Some first
      → with_front front (each_named named (texts (drop i words))) ≡ all
      → with_front (front ++ first ∷ []) (each_named named (texts (drop (i + 1) words))) ≡ all
  unfolding each_named
  goes_on front first words i d all within names so_far =
      let others = each_named named (texts (drop (i + 1) words)) in
      let step : each_named named ((get_or words i d).now ∷ texts (drop (i + 1) words)) ≡ option_and_then (λ more. Some (first ∷ more)) others =
      rw names refl in
      sym (front_more front first others) ∙ ap (with_front front) (sym step) ∙ sym (ap (with_front front) (at_word words i d within)) ∙ so_far

  pub stops : (front : List A) (words : List (Bor (List ℕ))) (i : ℕ) (d : Bor (List ℕ)) (all : Option (List A))
      → i < length words → named (get_or words i d).now ≡ None
      → with_front front (each_named named (texts (drop i words))) ≡ all → all ≡ None
  unfolding each_named
  stops front words i d all within names so_far =
      let step : each_named named ((get_or words i d).now ∷ texts (drop (i + 1) words)) ≡ None = rw names refl in
      sym so_far ∙ ap (with_front front) (at_word words i d within ∙ step)

  pub ends : (front : List A) (words : List (Bor (List ℕ))) (i : ℕ) (all : Option (List A))
      → length words ≤ i → with_front front (each_named named (texts (drop i words))) ≡ all → all ≡ Some front
  unfolding each_named
  ends front words i all past so_far =
      sym so_far ∙ ap (λ ws. with_front front (each_named named (texts ws))) (drop_of_length-le words past) ∙ ap Some (append-nil front)
