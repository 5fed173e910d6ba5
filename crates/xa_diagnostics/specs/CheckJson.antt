-- What a check says of a file, as JSON.
use Rattle.std.specs.Prelude.{ℕ, ◌==◌, if◌then◌else◌, List, ◌++◌, length, map, codes, Option, Some, None}
use Rattle.std.specs.Fmt.{decimal}
use Rattle.std.specs.Str.Lines.{lines}
use Rattle.std.specs.String.{string_bytes}
use Rattle.xa_diagnostics.specs.Explanations.{place_text}
use Rattle.xa_diagnostics.specs.Json.{array, items_in, quoted}
use Rattle.xa_diagnostics.specs.declared.diagnostic.Diagnostic.{Diagnostic}
use Rattle.xa_diagnostics.specs.declared.json.Item.TheVariants.{Line}
use Rattle.xa_diagnostics.specs.declared.document.FileKind.{FileKind}
use Rattle.xa_diagnostics.specs.declared.document.FileKind.TheVariants.{Scenario, Jobs}

-- a number, if there is one
abbrev pub number_json : Option ℕ → List ℕ
number_json None = codes "null"
number_json (Some n) = decimal n

-- a fault
abbrev pub fault_json : Diagnostic → List ℕ
fault_json it =
    codes "{\"line\":" ++ number_json it.line ++ codes ",\"column\":" ++ number_json it.column
    ++ codes ",\"place\":" ++ quoted (place_text it.fault) ++ codes ",\"reason\":" ++ quoted (string_bytes it.reason) ++ codes "}"

-- whether there is no fault
abbrev pub is_well : List Diagnostic → List ℕ
is_well found = if length found == 0 then codes "true" else codes "false"

-- what a file is
abbrev pub file_kind_name : FileKind → List ℕ
file_kind_name Scenario = codes "scenario"
file_kind_name Jobs = codes "jobs"

-- the file at a path, these faults, and what a run will refuse
abbrev pub check_json : (path : List ℕ) → FileKind → List Diagnostic → (warnings : List ℕ) → List ℕ
check_json path kind found warnings =
    codes "{\"file\":" ++ quoted path ++ codes ",\"ok\":" ++ is_well found ++ codes ",\"kind\":\"" ++ file_kind_name kind
    ++ codes "\",\"faults\":" ++ array (map fault_json found) ++ codes ",\"warnings\":" ++ array (items_in Line (lines warnings)) ++ codes "}\n"
