use Rattle.std.proofs.Common.{◌≡◌, ◌≤◌, length, vec_capacity, vec_len}
use Rattle.sqlite.specs.Held.{state}
use Rattle.xa_sql_log.proofs.FoundDecisions.{HasFound}
use Rattle.xa_sql_log.proofs.groups.find_each.Given as goal

abbrev pub invariant-loop-i : goal.invariant-loop-i
invariant-loop-i g l = record {
  room : length l.decisions ≤ vec_capacity l.answers;
  count : vec_len l.answers ≡ l.i;
  found : HasFound l.decisions l.i l.answers.items (state g.S.Store l.fn.conn) (state g.S.Store l.conn);
}
