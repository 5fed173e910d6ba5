-- Which tables of a log a database has, by their names and columns.
use Rattle.std.specs.Prelude.{◌≡◌, Bool, ◌&&◌, ◌||◌, codes, if◌then◌else◌, is_some, length, nat_eq, List, ℕ}
use Rattle.std.specs.List.{list_any}
use Rattle.sqlite.specs.State.{State}
use Rattle.sqlite_schema.specs.Names.{column_named, is_key, same_name, table_named, view_named}
use Rattle.sqlite_schema.specs.declared.schema.Schema.{Schema}
use Rattle.sqlite_schema.specs.declared.schema.Table.{Table}
use Rattle.xa_sql_log.specs.declared.layout.Layout.{Layout}
use Rattle.xa_sql_log.specs.declared.layout.Layout.TheVariants.{Missing, Version1, Version2, Other}

-- its column of this name is at this place
abbrev pub is_at : Table → List ℕ → ℕ → Bool
is_at table name place = is_key (column_named table name) place

abbrev pub is_meta : Table → Bool
is_meta t =
    same_name t.name (codes "tm_meta")
    && nat_eq (length t.columns) 3 && is_at t (codes "k") 0 && is_at t (codes "version") 1 && is_at t (codes "incarnation") 2

abbrev pub is_decision : Table → Bool
is_decision t = same_name t.name (codes "decision") && nat_eq (length t.columns) 2 && is_at t (codes "inc") 0 && is_at t (codes "seq") 1

-- the first four columns name a branch
abbrev pub begins_with_branch : Table → Bool
begins_with_branch t = is_at t (codes "inc") 0 && is_at t (codes "seq") 1 && is_at t (codes "thread") 2 && is_at t (codes "rm") 3

abbrev pub is_heuristic : Table → Bool
is_heuristic t = same_name t.name (codes "heuristic") && nat_eq (length t.columns) 5 && begins_with_branch t && is_at t (codes "how") 4

abbrev pub is_participant : Table → Bool
is_participant t = same_name t.name (codes "participant") && nat_eq (length t.columns) 4 && begins_with_branch t

-- a table or a view has this name
abbrev pub is_taken : Schema → List ℕ → Bool
is_taken schema name = is_some (table_named schema name) || is_some (view_named schema name)

abbrev pub takes_names : Schema → Bool
takes_names schema =
    is_taken schema (codes "tm_meta") || is_taken schema (codes "decision") || is_taken schema (codes "heuristic") || is_taken schema (codes "participant")

-- each table that a log of version 1 has
abbrev pub has_first_tables : Schema → Bool
has_first_tables schema = list_any is_meta schema.tables && list_any is_decision schema.tables && list_any is_heuristic schema.tables

-- The layout of a database. With the names of a log's tables it is a log's only if these have their columns.
unfoldable pub layout_in : Schema → Layout
layout_in schema =
    if takes_names schema then
    (if has_first_tables schema then
    (if list_any is_participant schema.tables then Version2 else (if is_taken schema (codes "participant") then Other else Version1))
    else Other)
    else Missing

-- some of a log's names are taken, and the tables aren't those of a log
abbrev pub HasOtherTables : State → Type 0
HasOtherTables s = layout_in s.now.schema ≡ Other
