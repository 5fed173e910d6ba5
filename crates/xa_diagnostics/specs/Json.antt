-- What is printed, as JSON.
use Rattle.std.specs.Prelude.{ℕ, ◌^◌, ◌-◌, ◌==◌, nat_lt, nat_eq, false, true, Bool, if◌then◌else◌, List, [], ◌∷◌, ◌++◌, codes, not, ◌&&◌, ◌||◌}
use Rattle.std.specs.Char.{encode_utf8}
use Rattle.std.specs.Fmt.{digits, format_spec, padded_integral}
use Rattle.std.specs.List.{after_first, before_first, flat_map, join_with_byte, starts_with}
use Rattle.std.specs.Str.{bytes_eq, chars}
use Rattle.std.specs.Str.Lines.{lines}
use Rattle.xa_diagnostics.specs.declared.json.Item.{Item}
use Rattle.xa_diagnostics.specs.declared.json.Item.TheVariants.{Line, Branch, Event, Name, Rm, Incarnation, Decision}

-- a character, as it stands in a text in quotes
abbrev pub escaped : ℕ → List ℕ
escaped c =
    if c == 34 then 92 ∷ 34 ∷ []
    else (if c == 92 then 92 ∷ 92 ∷ []
    else (if c == 10 then 92 ∷ 110 ∷ []
    else (if c == 9 then 92 ∷ 116 ∷ []
    else (if c == 13 then 92 ∷ 114 ∷ []
    else (if nat_lt c 32 then (92 ∷ codes "u00") ++ padded_integral (format_spec 32 0 4 2 (2 ^ 64 - 1)) false [] (digits 16 false c)
    else encode_utf8 c)))))

-- a text in quotes
unfoldable pub quoted : List ℕ → List ℕ
quoted text = (34 ∷ []) ++ flat_map escaped (chars text) ++ (34 ∷ [])

-- items in brackets
abbrev pub array : List (List ℕ) → List ℕ
array items = codes "[" ++ join_with_byte 44 items ++ codes "]"

-- what stands before the first space of a line, and what stands after it
abbrev pub json_word_of : List ℕ → List ℕ
json_word_of line = before_first (λ b. b == 32) line

abbrev pub rest_of : List ℕ → List ℕ
rest_of line = after_first (λ b. b == 32) line

-- whether a line tells of a branch, by its identifier
abbrev pub tells_branch : List ℕ → Bool
tells_branch line = starts_with nat_eq line (codes "7:")

-- whether a line is such an item
abbrev pub is_item : Item → List ℕ → Bool
is_item Line line = true
is_item Branch line = tells_branch line
is_item Event line = not (tells_branch line)
is_item Name line = bytes_eq (json_word_of line) (codes "name")
is_item Rm line = bytes_eq (json_word_of line) (codes "rm")
is_item Incarnation line = bytes_eq (json_word_of line) (codes "incarnation")
is_item Decision line =
    not (tells_branch line
    || (bytes_eq (json_word_of line) (codes "name")
    || (bytes_eq (json_word_of line) (codes "rm") || bytes_eq (json_word_of line) (codes "incarnation"))))

-- the item that a line is
abbrev pub item_text : Item → List ℕ → List ℕ
item_text Branch line = codes "{\"branch\":" ++ quoted (json_word_of line) ++ codes ",\"fate\":" ++ quoted (rest_of line) ++ codes "}"
item_text Line line = quoted line
item_text Event line = quoted line
item_text Name line = quoted (rest_of line)
item_text Rm line = quoted (rest_of (rest_of line))
item_text Incarnation line = rest_of line
item_text Decision line = codes "{\"transaction\":" ++ quoted (json_word_of line) ++ codes ",\"branches\":" ++ rest_of line ++ codes "}"

-- the same, if it is one
abbrev pub item_in : Item → List ℕ → List (List ℕ)
item_in item line = if is_item item line then item_text item line ∷ [] else []

-- the items of one kind in some lines
unfoldable pub items_in : Item → List (List ℕ) → List (List ℕ)
items_in item = flat_map (item_in item)

-- the first item, if there is one
abbrev pub first_or_null : List (List ℕ) → List ℕ
first_or_null [] = codes "null"
first_or_null (item ∷ items) = item

-- what a run prints, as JSON: its branches with their fates, and the other lines of its trace, if
-- it has one
abbrev pub run_json : Bool → List ℕ → List ℕ
run_json with_trace printed =
    if with_trace then codes "{\"events\":" ++ array (items_in Event (lines printed))
    ++ codes ",\"branches\":" ++ array (items_in Branch (lines printed)) ++ codes "}\n"
    else codes "{\"branches\":" ++ array (items_in Branch (lines printed)) ++ codes "}\n"

-- what a look at a log prints, as JSON: the names that it keeps, its incarnation, its decisions,
-- and its heuristic ends
abbrev pub log_json : List ℕ → List ℕ
log_json printed =
    codes "{\"name\":" ++ first_or_null (items_in Name (lines printed))
    ++ codes ",\"rms\":" ++ array (items_in Rm (lines printed))
    ++ codes ",\"incarnation\":" ++ first_or_null (items_in Incarnation (lines printed))
    ++ codes ",\"decisions\":" ++ array (items_in Decision (lines printed))
    ++ codes ",\"heuristics\":" ++ array (items_in Branch (lines printed)) ++ codes "}\n"
