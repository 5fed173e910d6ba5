-- What a seat has seen of the board, and which slots it holds.
use Rattle.std.specs.Prelude.{◌≡◌, ◌≢◌, ◌⊎◌, ℕ, ◌<◌, ◌≤◌, ◌==◌, List, [], ◌∷◌, ◌++◌, not}
use Rattle.std.specs.List.{AllPairs, Contains, filter}
use Rattle.atomic_table.specs.Seated.{TableId}
use Rattle.xa_workers.specs.declared.word.Word.{Word}
use Rattle.xa_workers.specs.declared.word.Word.TheVariants.{Open, Claimed, Committed, RolledBack}
use Rattle.xa_workers.specs.declared.word.Claim.{Claim}
use Rattle.xa_workers.specs.declared.word.Claim.TheVariants.{Won, Found}
use Rattle.xa_workers.specs.declared.view.Entry.{Entry}
use Rattle.xa_workers.specs.declared.view.View.{View}
use Rattle.xa_workers.specs.declared.view.Place.{Place}
use Rattle.xa_workers.specs.Words.{number_of_word, IsDecided}

abbrev pub entry : ℕ → Word → Word → Entry
entry slot found left = record { slot = slot; found = found; left = left }

-- the entry of a claim: the slot was open and is claimed, or it stays as it was found
abbrev pub claim_entry : ℕ → Claim → Entry
claim_entry slot Won = entry slot Open Claimed
claim_entry slot (Found w) = entry slot w w

-- the view of a seat that has taken no step
abbrev pub blank : View
blank = record { entries = []; held = [] }

abbrev pub without_slot : ℕ → List ℕ → List ℕ
without_slot slot held = filter (λ k. not (k == slot)) held

-- a slot is held from the step that finds it open and leaves it claimed to the step that finds it
-- claimed and decides it
abbrev pub slots_after : List ℕ → ℕ → Word → Word → List ℕ
slots_after held slot Open Claimed = slot ∷ held
slots_after held slot Claimed Committed = without_slot slot held
slots_after held slot Claimed RolledBack = without_slot slot held
slots_after held slot found left = held

-- the view with one more entry
abbrev pub with_entry : View → Entry → View
with_entry v e = record { entries = v.entries ++ e ∷ []; held = slots_after v.held e.slot e.found e.left }

-- after a step that left this word, a step may find it, or a greater one if it was open or claimed
abbrev pub MayFind : Word → Word → Type 0
MayFind left found = (found ≡ left) ⊎ ((number_of_word left ≤ 1) × (number_of_word left < number_of_word found))

-- of two entries on one slot the later found what the earlier may lead to
abbrev pub FollowsOnSlot : Entry → Entry → Type 0
FollowsOnSlot x y = y.slot ≡ x.slot → MayFind x.left y.found

abbrev pub InOrder : View → Type 0
InOrder v = AllPairs FollowsOnSlot v.entries

abbrev pub HoldsSlot : View → ℕ → Type 0
HoldsSlot v slot = Contains v.held slot

-- a step of this seat left the word at the slot
abbrev pub Saw : View → ℕ → Word → Type 0
Saw v slot w = (found : Word) × Contains v.entries (entry slot found w)

-- a step of this seat left the slot decided so
abbrev pub SawDecided : View → ℕ → Word → Type 0
SawDecided v slot w = Saw v slot w × IsDecided w

-- a step of this seat left the slot claimed or decided
abbrev pub SawTaken : View → ℕ → Type 0
SawTaken v slot = (w : Word) × Saw v slot w × (w ≢ Open)

-- two seats that saw a slot decided saw it decided alike
abbrev pub Agree : View → View → Type 0
Agree v w = (slot : ℕ) (x y : Word) → SawDecided v slot x → SawDecided w slot y → x ≡ y

-- no slot is held by both
abbrev pub HoldApart : View → View → Type 0
HoldApart v w = (slot : ℕ) → HoldsSlot v slot → HoldsSlot w slot → ⊥

-- a seat by itself, with no other aboard
abbrev pub alone : View → Place
alone v = record { own = v; guest = blank }

-- a seat that has taken another aboard
abbrev pub with_guest : View → View → Place
with_guest v w = record { own = v; guest = w }

-- what contracts see of a board, and of a seat
pub record BoardId : Type 0 where
  pub table : TableId
  pub slots : ℕ

pub record SeatState : Type 0 where
  pub board : TableId
  pub view : View

-- the exchanges that a seat may make: to claim or roll back an open slot, and to decide a slot that
-- it holds
abbrev pub MayExchange : View → ℕ → Word → Word → Type 0
MayExchange v slot Open Claimed = Unit {0}
MayExchange v slot Open RolledBack = Unit {0}
MayExchange v slot Claimed Committed = HoldsSlot v slot
MayExchange v slot Claimed RolledBack = HoldsSlot v slot
MayExchange v slot old new = ⊥
