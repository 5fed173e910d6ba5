-- The tables that recover branches in doubt.
use Rattle.std.specs.Prelude.{ℕ, ◌==◌, Bool, true, false, if◌then◌else◌, [], ◌∷◌, codes, Option, Some, None}
use Rattle.toml.specs.Data.{Members}
use Rattle.xa_files.specs.Fields.{◌>>=◌, index_at, integer_at}
use Rattle.xa_scenario_file.specs.Branches.{only}
use Rattle.xa_scenario_file.specs.Flags.{flags_at}
use Rattle.xa_scenario_file.specs.declared.entry.Entry.{Entry}
use Rattle.xa_scenario_file.specs.declared.entry.Entry.TheVariants as entries

-- whether a scan begins, and whether it ends, by these flags of an xa_recover: TMENDRSCAN and
-- TMSTARTRSCAN
abbrev pub scan_of_flags : ℕ → Option (Bool × Bool)
scan_of_flags flags =
    if flags == 0 then Some (false, false)
    else if flags == 0x0080_0000 then Some (false, true)
    else if flags == 0x0100_0000 then Some (true, false)
    else if flags == 0x0180_0000 then Some (true, true)
    else None

unfoldable pub recover_row : Members → Option Entry
recover_row table = only (codes "rm" ∷ codes "count" ∷ codes "flags" ∷ []) table (do
  rm ← index_at (codes "rm") table
  count ← integer_at (codes "count") table
  scan ← flags_at table >>= scan_of_flags
  Some (entries.Recover rm count scan.0 scan.1))

-- the resource manager, if the table has no other key
unfoldable pub only_rm : Members → Option ℕ
only_rm table = only (codes "rm" ∷ []) table (index_at (codes "rm") table)

abbrev pub resolve_row : Members → Option Entry
resolve_row table = only_rm table >>= λ rm. Some (entries.Resolve rm)

abbrev pub resolve_open_row : Members → Option Entry
resolve_open_row table = only_rm table >>= λ rm. Some (entries.ResolveOpen rm)
