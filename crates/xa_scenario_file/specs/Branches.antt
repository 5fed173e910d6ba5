-- The transactions and branches that a table of a scenario file names. The names of the `begin`
-- tables before it are `begun`.
use Rattle.std.specs.Prelude.{ℕ, if◌then◌else◌, List, [], ◌∷◌, codes, Option, Some, None, option_map, position}
use Rattle.std.specs.Str.{bytes_eq}
use Rattle.toml.specs.Data.{Members}
use Rattle.xa_files.specs.Fields.{◌>>=◌, has_only, holds, index_or, name_at}
use Rattle.xa_scenario_file.specs.declared.entry.BranchEntry.{BranchEntry}

-- the names of transactions, in the order of their `begin`s
abbrev pub BegunNames : Type 0
BegunNames = List (List ℕ)

-- what the table asks for, if it has no other keys than `do` and these
abbrev pub only : {A : Type 0} → List (List ℕ) → Members → Option A → Option A
only keys table entry = if has_only (codes "do" ∷ keys) table then entry else None

-- the place of the `begin` of a transaction that was begun before, by its name
abbrev pub begin_at : BegunNames → Members → Option ℕ
begin_at begun table = name_at (codes "tx") table >>= λ name. position (bytes_eq name) begun

-- the same, if the table has no other key
unfoldable pub only_begin : BegunNames → Members → Option ℕ
only_begin begun table = only (codes "tx" ∷ []) table (begin_at begun table)

-- a branch of such a transaction; its thread is the default, if the table names none
unfoldable pub branch_at : BegunNames → ℕ → Members → Option BranchEntry
branch_at begun default table = do
  begin ← begin_at begun table
  thread ← index_or default (codes "of") table
  Some (record { begin = begin; thread = thread })

-- the same, if `tx` may be missing, and `of` with it
unfoldable pub branch_if_named : BegunNames → ℕ → Members → Option (Option BranchEntry)
branch_if_named begun default table =
    if holds (codes "tx") table then option_map Some (branch_at begun default table)
    else if holds (codes "of") table then None
    else Some None
