use Rattle.std.proofs.Common.{◌∙◌, ◌<◌, arith, length}
use Rattle.sqlite.specs.Held.{state}
use Rattle.sqlite.specs.State.{HasCleanDisk}
use Rattle.sqlite.proofs.InsideLemmas.{keeps_then}
use Rattle.xa_sql_log.proofs.DeletedRows.{takes_one}
use Rattle.xa_sql_log.proofs.Inside.{survives_none}
use Rattle.xa_sql_log.proofs.removals.delete_each.Goals as goal

pub loop-g-preserved : goal.loop-g-preserved
loop-g-preserved g c =
    let old = state g.S.Store c.args.tx.now.conn.now in
    let mid = state g.S.Store c.loop-g.tx.conn.now in
    let new = state g.S.Store c.delete_decision.new.tx.conn.now in
    let inv = c.loop-g.invariant in
    let early : HasCleanDisk new → HasCleanDisk mid = λ clean. omega (arith, c.delete_decision.ensures.survives.clean) in
    let low : c.loop-g.g-index < length c.args.gtrids.now = omega arith in (
      c.delete_decision.ensures.same_reference ∙ inv.0,
      survives_none old mid new inv.1 c.delete_decision.ensures.survives,
      λ clean. keeps_then old mid new (inv.2 (early clean)) (c.delete_decision.ensures.kept clean),
      λ clean begins.
          let first = inv.3 (early clean) begins in
          let live = c.in_ok-delete_decision.ensures.live clean in
          takes_one c.args.gtrids.now c.loop-g.g-index _ old mid new low first live
          (c.in_ok-delete_decision.ensures.taken (first.now live) first.inside clean),
    )
