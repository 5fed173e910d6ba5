use Rattle.std.proofs.Common.{◌<◌, ◌≤◌, ◌∙◌, arith, length}
use Rattle.xa_tm.proofs.Maps.ResolveOpen.{room_all, room_more}
use Rattle.xa_tm.proofs.ledger.resolve_open.reserve_all.Goals as goal

pub loop-g-preserved : goal.loop-g-preserved
loop-g-preserved c =
    let gs = c.args.gtrids.now in
    let i = c.loop-g.g-index in
    let low : i < length gs = omega arith in (
      λ q. c.in_ok-reserve_transaction.ensures.same q ∙ c.loop-g.invariant.0 q,
      room_more gs i _ c.loop-g.map c.reserve_transaction.new.map low c.in_ok-reserve_transaction.ensures.kept c.in_ok-reserve_transaction.ensures.room
          c.loop-g.invariant.1,
    )

pub returns-clause-room : goal.returns-clause-room
returns-clause-room c =
    let gs = c.args.gtrids.now in
    let i = c.loop-g.g-index in
    let past : length gs ≤ i = omega arith in
    c.loop-g.invariant.1 c.loop-g.map (λ q has. has) (room_all c.loop-g.map gs i past)
