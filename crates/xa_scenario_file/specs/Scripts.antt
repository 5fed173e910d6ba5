-- The tables that tell a resource manager what to do with a branch. The branch's thread is 0, if
-- the table names none.
use Rattle.std.specs.Prelude.{[], ◌∷◌, codes, Option, Some}
use Rattle.toml.specs.Data.{Members}
use Rattle.xa_files.specs.Fields.{◌>>=◌, index_at, number_at, text_at}
use Rattle.xa_scenario_file.specs.Branches.{BegunNames, branch_at, only}
use Rattle.xa_files.specs.Words.{vote_named}
use Rattle.xa_scenario_file.specs.Words.{how_named}
use Rattle.xa_scenario_file.specs.declared.entry.Entry.{Entry}
use Rattle.xa_scenario_file.specs.declared.entry.Entry.TheVariants as entries
use Rattle.xa_scenario_file.specs.declared.entry.Script.TheVariants as scripts

unfoldable pub vote_entry : BegunNames → Members → Option Entry
vote_entry begun table = only (codes "rm" ∷ codes "tx" ∷ codes "of" ∷ codes "vote" ∷ []) table (do
  rm ← index_at (codes "rm") table
  branch ← branch_at begun 0 table
  vote ← text_at (codes "vote") table >>= vote_named
  Some (entries.Script rm branch (scripts.Vote vote)))

-- a commit is put off at most 1,000 times
unfoldable pub busy_entry : BegunNames → Members → Option Entry
busy_entry begun table = only (codes "rm" ∷ codes "tx" ∷ codes "of" ∷ codes "times" ∷ []) table (do
  rm ← index_at (codes "rm") table
  branch ← branch_at begun 0 table
  times ← number_at 1000 (codes "times") table
  Some (entries.Script rm branch (scripts.Busy times)))

unfoldable pub heuristic_entry : BegunNames → Members → Option Entry
heuristic_entry begun table = only (codes "rm" ∷ codes "tx" ∷ codes "of" ∷ codes "how" ∷ []) table (do
  rm ← index_at (codes "rm") table
  branch ← branch_at begun 0 table
  how ← text_at (codes "how") table >>= how_named
  Some (entries.Script rm branch (scripts.Heuristic how)))
