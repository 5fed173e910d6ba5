use Rattle.std.proofs.Common.{◌≡◌, map, reverse, take}
use Rattle.std.specs.BTreeMap.{IsOrdered}
use Rattle.std.specs.FinMap.{from_entries}
use Rattle.xa_base.specs.Branch.{branch_cmp}
use Rattle.xa_sql_log.specs.Rows.{heuristic_from}
use Rattle.xa_sql_log.proofs.rows.ends.Given as goal

abbrev pub invariant-loop-row : goal.invariant-loop-row
invariant-loop-row l =
    (from_entries {R = branch_cmp} l.ends.entries ≡ from_entries (reverse (map heuristic_from (take l.row-index l.fn.rows.items))))
    × IsOrdered branch_cmp l.ends
