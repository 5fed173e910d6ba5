-- The tables that move calls and answers along a line.
use Rattle.std.specs.Prelude.{ℕ, [], ◌∷◌, codes, Option, Some}
use Rattle.toml.specs.Data.{Members}
use Rattle.xa_files.specs.Fields.{◌>>=◌, index_at}
use Rattle.xa_scenario_file.specs.Branches.{only}
use Rattle.xa_scenario_file.specs.declared.entry.Entry.{Entry}
use Rattle.xa_scenario_file.specs.declared.entry.Entry.TheVariants as entries

-- the thread and the resource manager of a line
unfoldable pub line_in_table : Members → Option (ℕ × ℕ)
line_in_table table = do
  thread ← index_at (codes "thread") table
  rm ← index_at (codes "rm") table
  Some (thread, rm)

-- the same, if the table has no other keys
unfoldable pub only_line : Members → Option (ℕ × ℕ)
only_line table = only (codes "thread" ∷ codes "rm" ∷ []) table (line_in_table table)

abbrev pub take_row : Members → Option Entry
take_row table = only_line table >>= λ line. Some (entries.Take line.0 line.1)

abbrev pub hear_row : Members → Option Entry
hear_row table = only_line table >>= λ line. Some (entries.Hear line.0 line.1)

abbrev pub drain_row : Members → Option Entry
drain_row table = only_line table >>= λ line. Some (entries.Drain line.0 line.1)
