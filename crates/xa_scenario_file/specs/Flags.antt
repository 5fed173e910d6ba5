-- The flags that a table names.
use Rattle.std.specs.Prelude.{ℕ, Bool, false, ◌||◌, bit_or, if◌then◌else◌, List, codes, Option, Some, None}
use Rattle.std.specs.Str.{bytes_eq}
use Rattle.toml.specs.Data.{Data, string, Items, no_items, item, Members, get_member, as_str, as_array}
use Rattle.xa_files.specs.Fields.{◌>>=◌, holds}
use Rattle.xa_files.specs.Words.{flag_named}

-- whether a value is this text
abbrev pub is_text : List ℕ → Data → Bool
is_text text (string other) = bytes_eq other text
is_text text _ = false

-- whether some item is this text
abbrev pub holds_text : List ℕ → Items → Bool
holds_text text no_items = false
holds_text text (item value items) = is_text text value || holds_text text items

-- the flags together; none, if an item is no flag, or a flag is named twice
abbrev pub flags_of : Items → Option ℕ
flags_of no_items = Some 0
flags_of (item value items) =
    as_str value >>= λ word. flag_named word >>= λ flag. flags_of items >>= λ others.
    if holds_text word items then None else Some (bit_or flag others)

-- the flags that the table names; no flag, if it has no such key
unfoldable pub flags_at : Members → Option ℕ
flags_at table =
    if holds (codes "flags") table then get_member (codes "flags") table >>= as_array >>= flags_of else Some 0
