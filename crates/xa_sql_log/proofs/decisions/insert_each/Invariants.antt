use Rattle.std.proofs.Common.{◌≡◌, take}
use Rattle.xa_log.specs.KeySet.{empty, from_list}
use Rattle.sqlite.specs.State.{HasCleanDisk, KeepsCommit, Survives}
use Rattle.sqlite.specs.Held.{state}
use Rattle.xa_log.specs.Content.{Content}
use Rattle.xa_sql_log.specs.Sql.{HasWritten}
use Rattle.xa_sql_log.proofs.decisions.insert_each.Given as goal

abbrev pub invariant-loop-branch : goal.invariant-loop-branch
invariant-loop-branch g l =
    let old = state g.S.Store l.fn.tx.conn.now in
    let now = state g.S.Store l.tx.conn.now in
    (l.tx.conn.ghost_name ≡ l.fn.tx.conn.ghost_name) × Survives old now (λ _. ⊥) × (HasCleanDisk now → KeepsCommit old now)
    × (HasCleanDisk now → (before : Content) → HasWritten l.fn.g empty before old
    → HasWritten l.fn.g (from_list (take l.branch-index l.participants)) before now)
