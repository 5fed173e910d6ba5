-- Scenario files that are read one after another, each for a process of one system.
use Rattle.std.specs.Prelude.{◌≡◌, ℕ, ◌+◌, Bool, true, ◌&&◌, nat_eq, if◌then◌else◌, List, [], ◌∷◌, map, All, Option, Some, None, Result, Ok, Err}
use Rattle.std.specs.String.{string_bytes}
use Rattle.toml.specs.Data.{Items, no_items, item, Members}
use Rattle.xa_base.specs.declared.limits.TheConstants.{MAX_RMS, MAX_THREADS}
use Rattle.xa_files.specs.Documents.{document_of}
use Rattle.xa_files.specs.Reading.{◌>>=◌}
use Rattle.xa_files.specs.declared.fault.RunFault.{RunFault}
use Rattle.xa_files.specs.declared.fault.RunFault.TheVariants.{Header}
use Rattle.xa_scenario_file.specs.Branches.{BegunNames}
use Rattle.xa_scenario_file.specs.Scenarios.{IsSize, Plan, entries_from, header_of, names_after}
use Rattle.xa_scenario_file.specs.declared.files.Before.{Before}
use Rattle.xa_scenario_file.specs.declared.files.FileFault.{FileFault}

-- ** one file

-- what is before a file: how large the system is, if an earlier file said so, and the names begun
-- so far
pub record Earlier : Type 0 where
  pub size : Option (ℕ × ℕ)
  pub names : BegunNames

abbrev pub nothing_earlier : Earlier
nothing_earlier = record { size = None; names = [] }

-- the same, without where it lies in memory
abbrev pub earlier_of : Before → Earlier
earlier_of before = record { size = before.size; names = map string_bytes before.names.items }

-- the size is that of the files before
abbrev pub is_alike : Option (ℕ × ℕ) → (threads rms : ℕ) → Bool
is_alike None threads rms = true
is_alike (Some size) threads rms = nat_eq threads size.0 && nat_eq rms size.1

-- its top
abbrev pub header_after : Earlier → Members → Result (ℕ × ℕ × Items) RunFault
header_after earlier document = header_of document >>= λ h. if is_alike earlier.size h.0 h.1 then Ok h else Err Header

-- the names so far, with those that the items begin
unfoldable pub names_with : BegunNames → Items → BegunNames
names_with begun no_items = begun
names_with begun (item value items) = names_with (names_after begun value) items

-- the names that a text begins in turn, or the first fault of its document or its top
unfoldable pub names_of : List ℕ → Result BegunNames RunFault
names_of text = do
  document ← document_of text
  header ← header_of document
  Ok (names_with [] header.2)

-- the scenario that a text is after all that, and what is then before the next one; or the first
-- fault
unfoldable pub file_after : Earlier → List ℕ → Result (Plan × Earlier) RunFault
file_after earlier text = do
  document ← document_of text
  header ← header_after earlier document
  entries ← entries_from 1 earlier.names header.2
  Ok (
    (let plan : Plan = record { threads = header.0; rms = header.1; entries = entries } in plan),
    (let next : Earlier = record { size = Some (header.0, header.1); names = names_with earlier.names header.2 } in next),
  )

-- ** files in turn

-- a scenario in front of those that are read after it
abbrev pub with_plan : Plan → Result (List Plan) FileFault → Result (List Plan) FileFault
with_plan plan (Ok plans) = Ok (plan ∷ plans)
with_plan plan (Err fault) = Err fault

-- the file of a place, and those that are read after it
abbrev pub file_then : ℕ → Result (Plan × Earlier) RunFault → (Earlier → Result (List Plan) FileFault) → Result (List Plan) FileFault
file_then place (Ok read) later = with_plan read.0 (later read.1)
file_then place (Err fault) later = Err (record { file = place; fault = fault })

-- the scenarios that texts are in turn, or the first fault with the place of its text; the first of
-- them has this place
unfoldable pub files_from : ℕ → Earlier → List (List ℕ) → Result (List Plan) FileFault
files_from place earlier [] = Ok []
files_from place earlier (text ∷ texts) = file_then place (file_after earlier text) (λ next. files_from (place + 1) next texts)

abbrev pub scenarios_of : List (List ℕ) → Result (List Plan) FileFault
scenarios_of texts = files_from 0 nothing_earlier texts

-- the scenarios are for a system of one size
pub record AreOfOneSize (plans : List Plan) : Type 0 where
  pub threads : ℕ
  pub rms : ℕ
  pub some_threads : IsSize MAX_THREADS threads
  pub some_rms : IsSize MAX_RMS rms
  pub each : All (λ plan. (plan.threads ≡ threads) × (plan.rms ≡ rms)) plans
