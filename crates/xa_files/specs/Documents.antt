-- The documents that texts are, and what their tops have in common.
use Rattle.std.specs.Prelude.{ℕ, Bool, true, ◌&&◌, ◌==◌, is_some, if◌then◌else◌, List, Option, Some, None, Result}
use Rattle.std.specs.Option.{ok_or}
use Rattle.std.specs.Str.{is_utf8}
use Rattle.toml.specs.Data.{Data, Items, no_items, item, Members, as_array, as_table, get_member}
use Rattle.toml.specs.Parse.{parse_document}
use Rattle.xa_files.specs.Fields.{◌>>=◌, holds, number_at}
use Rattle.xa_files.specs.declared.fault.RunFault.{RunFault}
use Rattle.xa_files.specs.declared.fault.RunFault.TheVariants.{NotToml}

-- whether each of the items is a table
abbrev pub are_tables : Items → Bool
are_tables no_items = true
are_tables (item value items) = is_some (as_table value) && are_tables items

-- the items of a value that is an array of tables
abbrev pub tables_in : Data → Option Items
tables_in value = as_array value >>= λ items. if are_tables items then Some items else None

-- the tables at a key, none if it is missing
unfoldable pub tables_at : List ℕ → Members → Option Items
tables_at key document = if holds key document then get_member key document >>= tables_in else Some no_items

-- a number from 1 to the limit
abbrev pub size_at : ℕ → List ℕ → Members → Option ℕ
size_at limit key document = number_at limit key document >>= (λ n. if n == 0 then None else Some n)

-- the document that a text is
unfoldable pub document_of : List ℕ → Result Members RunFault
document_of text = ok_or (if is_utf8 text then parse_document text else None) NotToml
