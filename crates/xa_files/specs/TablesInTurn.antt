-- Tables that are read in turn, each by itself; and the faults that a text of such tables can have.
use Rattle.std.specs.Prelude.{◌≡◌, ◌⊎◌, ℕ, ◌<◌, List, slice_get, Some, Result, Ok, Err}
use Rattle.toml.specs.Data.{Data, Items, get_item}
use Rattle.xa_files.specs.declared.fault.RunFault.{RunFault}
use Rattle.xa_files.specs.declared.fault.RunFault.TheVariants.{NotToml, Header}

-- what the table at place k, from 0, asks for
pub record Asks {A : Type 0} (asked_at : Items → ℕ → Data → Result A RunFault) (items : Items) (k : ℕ) (answer : Result A RunFault) : Type 0 where
  pub value : Data
  pub there : get_item k items ≡ Some value
  pub asks : asked_at items k value ≡ answer

-- If the tables are read, what is read at each place is what its table asks for.
abbrev pub EachIsRead : {A : Type 0} → (Items → ℕ → Data → Result A RunFault) → (Items → Result (List A) RunFault) → Type 0
EachIsRead {A} asked_at read = (items : Items) (list : List A) → read items ≡ Ok list
    → (k : ℕ) (one : A) → slice_get list k ≡ Some one → Asks asked_at items k (Ok one)

-- A fault is that of some table, and each table before it is read.
abbrev pub FirstIsFaulty : {A : Type 0} → (Items → ℕ → Data → Result A RunFault) → (Items → Result (List A) RunFault) → Type 0
FirstIsFaulty {A} asked_at read = (items : Items) (fault : RunFault) → read items ≡ Err fault
    → (k : ℕ) × Asks asked_at items k (Err fault) × ((j : ℕ) → j < k → (one : A) × Asks asked_at items j (Ok one))

-- a fault that a text can have: it is no TOML, its header is faulty, or the table of a number
abbrev pub IsTextFault : (of_table : ℕ → RunFault) → RunFault → Type 0
IsTextFault of_table fault = (fault ≡ NotToml) ⊎ (fault ≡ Header) ⊎ ((number : ℕ) × (fault ≡ of_table number))

-- A text has no other fault.
abbrev pub FaultsAreOfTexts : {A : Type 0} → (of_table : ℕ → RunFault) → (List ℕ → Result A RunFault) → Type 0
FaultsAreOfTexts of_table read = (text : List ℕ) (fault : RunFault) → read text ≡ Err fault → IsTextFault of_table fault
