-- Each table of the steps by itself: what it asks for, after the names that the tables before it
-- begin.
use Rattle.std.specs.Prelude.{ℕ, zero, suc, ◌+◌, [], ◌∷◌, ◌++◌, Some, None, Result}
use Rattle.toml.specs.Data.{Data, Items, no_items, item}
use Rattle.xa_scenario_file.specs.Branches.{BegunNames}
use Rattle.xa_scenario_file.specs.Scenarios.{name_in, entry_at}
use Rattle.xa_scenario_file.specs.declared.entry.Entry.{Entry}
use Rattle.xa_files.specs.declared.fault.RunFault.{RunFault}

-- the name that a table begins, if it begins one
abbrev pub names_in : Data → BegunNames
names_in value = elim (name_in value) [ None ↦ [] | Some name ↦ name ∷ [] ]

-- the names that the first k tables begin
abbrev pub names_before : ℕ → Items → BegunNames
names_before zero items = []
names_before (suc k) no_items = []
names_before (suc k) (item value items) = names_in value ++ names_before k items

-- what the table at place k, from 0, asks for
abbrev pub asked_at : Items → (k : ℕ) → Data → Result Entry RunFault
asked_at items k value = entry_at (k + 1) (names_before k items) value
