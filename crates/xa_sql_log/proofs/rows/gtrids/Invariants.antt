use Rattle.std.proofs.Common.{◌≡◌, map, take}
use Rattle.std.specs.BTreeSet.{IsOrdered}
use Rattle.xa_base.specs.Branch.{gtrid_cmp}
use Rattle.xa_sql_log.specs.Rows.{gtrid_from}
use Rattle.xa_log.specs.KeySet.{from_list}
use Rattle.xa_sql_log.proofs.rows.gtrids.Given as goal

abbrev pub invariant-loop-row : goal.invariant-loop-row
invariant-loop-row l = (from_list {R = gtrid_cmp} l.gtrids.keys ≡ from_list (map gtrid_from (take l.row-index l.fn.rows.items))) × IsOrdered gtrid_cmp l.gtrids
