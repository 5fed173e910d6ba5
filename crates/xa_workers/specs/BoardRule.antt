-- What holds of a board between any two steps, over its words and the views of all seats.
use Rattle.std.specs.Prelude.{◌≡◌, ◌≢◌, ℕ, List, [], ◌∷◌, map, length, slice_index_or}
use mathlib.Core.Option.{some}
use lib.ListN.{get_elem?}
use Rattle.std.specs.List.{Contains}
use Rattle.xa_workers.specs.declared.word.Word.{Word}
use Rattle.xa_workers.specs.declared.word.Word.TheVariants.{Open, Claimed}
use Rattle.xa_workers.specs.declared.view.Entry.{Entry}
use Rattle.xa_workers.specs.declared.view.View.{View}
use Rattle.xa_workers.specs.declared.view.Place.{Place}
use Rattle.xa_workers.specs.Words.{number_of_word, IsDecided}
use Rattle.xa_workers.specs.Views.{InOrder, HoldsSlot}

abbrev pub word_at : List Word → ℕ → Word
word_at words slot = slice_index_or words slot Open

-- what a seat has seen agrees with the words as they are
pub record FitsView (words : List Word) (v : View) : Type 0 where
  pub held_is_claimed : (slot : ℕ) → HoldsSlot v slot → word_at words slot ≡ Claimed
  pub decided_stands : (e : Entry) → Contains v.entries e → IsDecided e.left → word_at words e.slot ≡ e.left
  pub claimed_is_not_open : (e : Entry) → Contains v.entries e → e.left ≡ Claimed → word_at words e.slot ≢ Open
  pub in_order : InOrder v

-- so it is with each seat, and a slot is held by at most one of them
pub record Kept (words : List Word) (views : List View) : Type 0 where
  pub fits : (i : ℕ) (v : View) → get_elem? views i ≡ some v → FitsView words v
  pub one_holder : (i j slot : ℕ) (v w : View) → get_elem? views i ≡ some v → get_elem? views j ≡ some w
      → HoldsSlot v slot → HoldsSlot w slot → i ≡ j

-- both are views of seats of one board
abbrev pub OnOneBoard : View → View → Type 0
OnOneBoard v w = (words : List Word) × Kept words (v ∷ w ∷ [])

-- the views of all seats, and of those that are aboard another
abbrev pub views_of : List Place → List View
views_of [] = []
views_of (p ∷ ps) = p.own ∷ p.guest ∷ views_of ps

-- the table has a first word that stays 0, and then the word of each slot
abbrev pub IsBoard : ℕ → List ℕ → List Place → Type 0
IsBoard slots numbers places =
    (words : List Word) × (numbers ≡ 0 ∷ map number_of_word words) × (length words ≡ slots) × Kept words (views_of places)
