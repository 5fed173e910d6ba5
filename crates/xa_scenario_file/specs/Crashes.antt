-- The tables by which parts crash and are started again.
use Rattle.std.specs.Prelude.{[], ◌∷◌, codes, Option, Some, None}
use Rattle.toml.specs.Data.{Members}
use Rattle.xa_base.specs.declared.step.Part.TheVariants as parts
use Rattle.xa_base.specs.declared.step.Side.TheVariants as sides
use Rattle.xa_files.specs.Fields.{◌>>=◌, index_at, text_at}
use Rattle.xa_scenario_file.specs.Branches.{only}
use Rattle.xa_scenario_file.specs.Moves.{line_in_table}
use Rattle.xa_scenario_file.specs.Words.{part_named}
use Rattle.xa_scenario_file.specs.declared.entry.Entry.{Entry}
use Rattle.xa_scenario_file.specs.declared.entry.Entry.TheVariants as entries
use Rattle.xa_scenario_file.specs.declared.words.PartKind.{PartKind}
use Rattle.xa_scenario_file.specs.declared.words.PartKind.TheVariants as kinds

-- the kind of the part that a table names
abbrev pub part_kind_at : Members → Option PartKind
part_kind_at table = text_at (codes "part") table >>= part_named

-- what a `crash` of a part asks for, each with keys of its own
abbrev pub crash_of : PartKind → Members → Option Entry
crash_of kinds.Line table = only (codes "part" ∷ codes "thread" ∷ codes "rm" ∷ []) table
    (line_in_table table >>= λ line. Some (entries.Crash (parts.Line line.0 line.1)))
crash_of kinds.Rm table = only (codes "part" ∷ codes "rm" ∷ []) table
    (index_at (codes "rm") table >>= λ rm. Some (entries.Crash (parts.Rm rm)))
crash_of kinds.Manager table = only (codes "part" ∷ []) table (Some (entries.Crash parts.Manager))

unfoldable pub crash_row : Members → Option Entry
crash_row table = part_kind_at table >>= λ kind. crash_of kind table

-- what a `restart` of a part asks for; a line is never down
abbrev pub restart_of : PartKind → Members → Option Entry
restart_of kinds.Line table = None
restart_of kinds.Rm table = only (codes "part" ∷ codes "rm" ∷ []) table
    (index_at (codes "rm") table >>= λ rm. Some (entries.Restart (sides.Rm rm)))
restart_of kinds.Manager table = only (codes "part" ∷ []) table (Some (entries.Restart sides.Manager))

unfoldable pub restart_row : Members → Option Entry
restart_row table = part_kind_at table >>= λ kind. restart_of kind table
