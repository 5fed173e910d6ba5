-- The names that a log keeps.
use Rattle.std.specs.Borrow.{Bor}
use Rattle.std.specs.Prelude.{◌≡◌, ◌≢◌, ℕ, Bool, nat_lt, List, length, slice_get, Some}

-- the name of a manager, which is empty if it has none, and after it those of its resource
-- managers, from number 0
abbrev pub Names : Type 0
Names = List (Bor (List ℕ))

-- if both have a name, it is the same
abbrev pub AgreeInNames : Names → Names → Type 0
AgreeInNames kept given = (i : ℕ) (a b : Bor (List ℕ)) → slice_get kept i ≡ Some a → slice_get given i ≡ Some b → a.now ≡ b.now

-- both have a name at this place, and not the same
abbrev pub DifferAt : ℕ → Names → Names → Type 0
DifferAt i kept given = (a b : Bor (List ℕ)) × (slice_get kept i ≡ Some a) × (slice_get given i ≡ Some b) × (a.now ≢ b.now)

-- resource managers have names
abbrev pub has_rms : Names → Bool
has_rms names = nat_lt 1 (length names)
