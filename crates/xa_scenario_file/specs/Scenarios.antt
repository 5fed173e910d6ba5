-- Which texts are scenarios, and the fault of each other text.
use Rattle.xa_base.specs.declared.limits.TheConstants.{MAX_RMS, MAX_THREADS}
use Rattle.std.specs.Prelude.{◌≤◌, ℕ, ◌+◌, nat_lt, if◌then◌else◌, List, [], ◌∷◌, ◌++◌, Option, Some, None, Result, Ok}
use Rattle.std.specs.Option.{ok_or, option_and_then}
use Rattle.toml.specs.Data.{Data, Items, no_items, item, Members, as_table}
use Rattle.xa_files.specs.Documents.{document_of}
use Rattle.xa_files.specs.Reading.{◌>>=◌}
use Rattle.xa_scenario_file.specs.Begins.{name_begun}
use Rattle.xa_scenario_file.specs.Branches.{BegunNames}
use Rattle.xa_scenario_file.specs.Headers.{header_at}
use Rattle.xa_scenario_file.specs.Tables.{entry_of}
use Rattle.xa_scenario_file.specs.declared.entry.Entry.{Entry}
use Rattle.xa_scenario_file.specs.declared.document.Scenario.{Scenario}
use Rattle.xa_files.specs.declared.fault.RunFault.{RunFault}
use Rattle.xa_files.specs.declared.fault.RunFault.TheVariants.{Header, Step}

-- how large the system is, and what is asked of it
pub record Plan : Type 0 where
  pub threads : ℕ
  pub rms : ℕ
  pub entries : List Entry

-- a number of threads or of resource managers, of which there are so many at most
abbrev pub IsSize : (most : ℕ) → ℕ → Type 0
IsSize most n = (1 ≤ n) × (n ≤ most)

-- there are as many of either as a system may have
pub record IsSized (plan : Plan) : Type 0 where
  pub threads : IsSize MAX_THREADS plan.threads
  pub rms : IsSize MAX_RMS plan.rms

-- the plan of a scenario, without where it lies in memory
abbrev pub plan_of : Scenario → Plan
plan_of s = record { threads = s.threads; rms = s.rms; entries = s.entries.items }

-- the name that an item begins, if it is a table that begins one
abbrev pub name_in : Data → Option (List ℕ)
name_in value = option_and_then name_begun (as_table value)

-- the names so far, with the one that an item begins
abbrev pub names_after : BegunNames → Data → BegunNames
names_after begun value = elim (name_in value) [ None ↦ begun | Some name ↦ begun ++ name ∷ [] ]

-- what the table of a number asks for: there are at most 10,000
abbrev pub entry_in : ℕ → BegunNames → Data → Option Entry
entry_in number begun value = if nat_lt 10000 number then None else option_and_then (entry_of begun) (as_table value)

-- the same, with its fault
abbrev pub entry_at : ℕ → BegunNames → Data → Result Entry RunFault
entry_at number begun value = ok_or (entry_in number begun value) (Step number)

-- what the tables ask for in turn, or the first faulty one; the first has this number
unfoldable pub entries_from : ℕ → BegunNames → Items → Result (List Entry) RunFault
entries_from number begun no_items = Ok []
entries_from number begun (item value items) = do
  entry ← entry_at number begun value
  others ← entries_from (number + 1) (names_after begun value) items
  Ok (entry ∷ others)

-- its top
abbrev pub header_of : Members → Result (ℕ × ℕ × Items) RunFault
header_of document = ok_or (header_at document) Header

-- the scenario that a document is, or the first fault
unfoldable pub scenario_in : Members → Result Plan RunFault
scenario_in document = do
  header ← header_of document
  entries ← entries_from 1 [] header.2
  Ok (record { threads = header.0; rms = header.1; entries = entries })

-- the same of a text
unfoldable pub scenario_of : List ℕ → Result Plan RunFault
scenario_of text = document_of text >>= scenario_in
