use Rattle.std.proofs.Common.{◌∙◌, ◌<◌, arith, length}
use Rattle.sqlite.specs.Held.{state}
use Rattle.sqlite.specs.State.{HasCleanDisk}
use Rattle.sqlite.proofs.InsideLemmas.{keeps_then}
use Rattle.xa_sql_log.proofs.Inside.{survives_none, written_more}
use Rattle.xa_sql_log.proofs.decisions.insert_each.Goals as goal

pub loop-branch-preserved : goal.loop-branch-preserved
loop-branch-preserved g c =
    let old = state g.S.Store c.args.tx.now.conn.now in
    let mid = state g.S.Store c.loop-branch.tx.conn.now in
    let new = state g.S.Store c.insert_participant.new.tx.conn.now in
    let inv = c.loop-branch.invariant in
    let early : HasCleanDisk new → HasCleanDisk mid = λ clean. omega (arith, c.insert_participant.ensures.survives.clean) in
    let low : c.loop-branch.branch-index < length c.args.participants.now = omega arith in (
      c.insert_participant.ensures.same_reference ∙ inv.0,
      survives_none old mid new inv.1 c.insert_participant.ensures.survives,
      λ clean. keeps_then old mid new (inv.2 (early clean)) (c.insert_participant.ensures.kept clean),
      λ clean before has. written_more c.args.g c.args.participants.now c.loop-branch.branch-index _ low c.requires.own before mid new
          (inv.3 (early clean) before has) (c.in_ok-insert_participant.ensures.written clean),
    )
