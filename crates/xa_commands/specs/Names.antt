-- The names of a service: what its log keeps, and what its driver is told first.
use Rattle.std.specs.Prelude.{◌≡◌, ◌≢◌, ◌⊎◌, ◌<◌, ℕ, Bool, true, nat_lt, ◌==◌, if◌then◌else◌, List, [], ◌∷◌, ◌++◌, codes, length, slice_get, Option, Some, None, Result, Ok, Err}
use Rattle.std.specs.Borrow.{Bor}
use Rattle.std.specs.List.{flat_map, slice_split}
use Rattle.xa_names.specs.KeptNames.{Names}
use Rattle.xa_names.specs.Names.{is_manager_name}
use Rattle.xa_restore.specs.Headings.{is_rm_name}
use Rattle.xa_commands.specs.declared.failure.Failure.{Failure}
use Rattle.xa_commands.specs.declared.failure.Failure.TheVariants.{Name}

-- each behind a space
abbrev pub spaced : List (List ℕ) → List ℕ
spaced words = flat_map (λ word. codes " " ++ word) words

-- ** the label of a log

-- the manager's name, which is empty if it has none, and behind it those of its resource managers
abbrev pub label_of : (name : List ℕ) → (rms : List (List ℕ)) → List ℕ
label_of name rms = name ++ spaced rms

-- its names
abbrev pub label_names : List ℕ → List (List ℕ)
label_names label = slice_split (λ c. c == 32) label

-- where both have a name, it is the same
abbrev pub AgreeAtEach : (kept given : List (List ℕ)) → Type 0
AgreeAtEach kept given = (i : ℕ) (a b : List ℕ) → slice_get kept i ≡ Some a → slice_get given i ≡ Some b → a ≡ b

abbrev pub names_rms : List (List ℕ) → Bool
names_rms names = nat_lt 1 (length names)

-- a log with the one label may be opened by whoever has the other
pub record MayOpen (kept given : List ℕ) : Type 0 where
  pub agree : AgreeAtEach (label_names kept) (label_names given)
  pub both : names_rms (label_names kept) ≡ names_rms (label_names given)

-- ** the name of a manager

-- none is given, or a text that has to be one
abbrev pub name_given : Option (List ℕ) → Result (List ℕ) Failure
name_given None = Ok []
name_given (Some text) = if is_manager_name text then Ok text else Err Name

-- ** the names of resource managers

-- each may be one, and no two are the same
pub record AreRmNames (names : Names) : Type 0 where
  pub right : (i : ℕ) (a : Bor (List ℕ)) → slice_get names i ≡ Some a → is_rm_name a.now ≡ true
  pub apart : (i j : ℕ) (a b : Bor (List ℕ)) → i < j → slice_get names i ≡ Some a → slice_get names j ≡ Some b → a.now ≢ b.now

-- there are none, or one for each resource manager
abbrev pub MayName : (rms : ℕ) → Names → Type 0
MayName rms names = (names ≡ []) ⊎ ((length names ≡ rms) × AreRmNames names)

-- ** the first line of a session

abbrev pub name_part : List ℕ → List ℕ
name_part [] = []
name_part (c ∷ cs) = codes " name " ++ (c ∷ cs)

abbrev pub rms_part : List (List ℕ) → List ℕ
rms_part [] = []
rms_part (rm ∷ rms) = codes " rms" ++ spaced (rm ∷ rms)

-- nothing, if neither the coordinator nor its resource managers have names
abbrev pub introduction : (name : List ℕ) → (rms : List (List ℕ)) → List ℕ
introduction [] [] = []
introduction name rms = codes "protocol 1 version 1.0.0" ++ name_part name ++ rms_part rms ++ codes "\n"
