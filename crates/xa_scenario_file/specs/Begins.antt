-- The tables that begin transactions.
use Rattle.std.specs.Prelude.{ℕ, if◌then◌else◌, List, [], ◌∷◌, codes, Option, Some, None}
use Rattle.std.specs.Str.{bytes_eq}
use Rattle.toml.specs.Data.{Members}
use Rattle.xa_files.specs.Fields.{◌>>=◌, index_at, is_text_among, name_at, text_at}
use Rattle.xa_scenario_file.specs.Branches.{BegunNames, only}
use Rattle.xa_scenario_file.specs.declared.entry.Entry.{Entry}
use Rattle.xa_scenario_file.specs.declared.entry.Entry.TheVariants as entries

-- a `begin` names its transaction anew
unfoldable pub begin_row : BegunNames → Members → Option Entry
begin_row begun table = only (codes "thread" ∷ codes "tx" ∷ []) table (do
  thread ← index_at (codes "thread") table
  name ← name_at (codes "tx") table
  if is_text_among begun name then None else Some (entries.Begin thread))

-- the name that a table begins, if it is a `begin`
unfoldable pub name_begun : Members → Option (List ℕ)
name_begun table = do
  word ← text_at (codes "do") table
  if bytes_eq word (codes "begin") then name_at (codes "tx") table else None
