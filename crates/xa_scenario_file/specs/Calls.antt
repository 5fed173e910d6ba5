-- The tables that make calls.
use Rattle.std.specs.Prelude.{ℕ, ℤ, if◌then◌else◌, List, [], ◌∷◌, codes, Option, Some, None, option_map}
use Rattle.toml.specs.Data.{Members}
use Rattle.xa_base.specs.Call.{call_with}
use Rattle.xa_base.specs.declared.call.Call.{Call}
use Rattle.xa_files.specs.Fields.{◌>>=◌, holds, index_at, integer_at, text_at}
use Rattle.xa_scenario_file.specs.Branches.{BegunNames, branch_if_named, only}
use Rattle.xa_scenario_file.specs.Flags.{flags_at}
use Rattle.xa_files.specs.Words.{call_named}
use Rattle.xa_scenario_file.specs.declared.entry.BranchEntry.{BranchEntry}
use Rattle.xa_scenario_file.specs.declared.entry.Entry.{Entry}
use Rattle.xa_scenario_file.specs.declared.entry.Entry.TheVariants as entries

-- the count, if the table gives one
unfoldable pub count_at : Members → Option (Option ℤ)
count_at table = if holds (codes "count") table then option_map Some (integer_at (codes "count") table) else Some None

-- the keys of a call, beside `do`
abbrev pub call_keys : List (List ℕ)
call_keys = codes "thread" ∷ codes "rm" ∷ codes "xa" ∷ codes "tx" ∷ codes "of" ∷ codes "flags" ∷ codes "count" ∷ []

-- a call of these parts, with its line; a branch's thread is the call's own, if the table names
-- none
unfoldable pub call_at : BegunNames → Members → Option (ℕ × ℕ × Call BranchEntry)
call_at begun table = only call_keys table (do
  thread ← index_at (codes "thread") table
  rm ← index_at (codes "rm") table
  kind ← text_at (codes "xa") table >>= call_named
  branch ← branch_if_named begun thread table
  flags ← flags_at table
  count ← count_at table
  call ← call_with kind branch flags count
  Some (thread, rm, call))

abbrev pub issue_row : BegunNames → Members → Option Entry
issue_row begun table = call_at begun table >>= λ call. Some (entries.Issue call.0 call.1 call.2)

abbrev pub call_row : BegunNames → Members → Option Entry
call_row begun table = call_at begun table >>= λ call. Some (entries.Call call.0 call.1 call.2)
