use Rattle.std.proofs.Common.{◌≡◌}
use Rattle.sqlite.specs.State.{HasCleanDisk, KeepsCommit, Survives}
use Rattle.sqlite.specs.Held.{state}
use Rattle.xa_sql_log.specs.Sql.{MayInsertAll}
use Rattle.xa_sql_log.proofs.GroupedRows.{WritesFirst}
use Rattle.xa_sql_log.proofs.groups.insert_new.Given as goal

abbrev pub invariant-loop-i : goal.invariant-loop-i
invariant-loop-i g l =
    let old = state g.S.Store l.fn.tx.conn.now in
    let now = state g.S.Store l.tx.conn.now in
    (l.tx.conn.ghost_name ≡ l.fn.tx.conn.ghost_name) × Survives old now (λ _. ⊥) × (HasCleanDisk now → KeepsCommit old now)
    × (HasCleanDisk now → MayInsertAll l.decisions l.answers old → WritesFirst l.decisions l.answers l.i old now)
