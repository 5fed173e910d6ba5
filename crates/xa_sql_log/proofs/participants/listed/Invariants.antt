use Rattle.std.proofs.Common.{◌≡◌, map, take}
use Rattle.std.specs.BTreeSet.{IsOrdered}
use Rattle.xa_base.specs.Branch.{branch_cmp}
use Rattle.xa_sql_log.specs.Rows.{participant_from}
use Rattle.xa_log.specs.KeySet.{from_list}
use Rattle.xa_sql_log.proofs.participants.listed.Given as goal

abbrev pub invariant-loop-row : goal.invariant-loop-row
invariant-loop-row l =
    (from_list {R = branch_cmp} l.branches.keys ≡ from_list (map (participant_from l.fn.g) (take l.row-index l.fn.rows.items)))
    × IsOrdered branch_cmp l.branches
