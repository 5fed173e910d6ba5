use Rattle.std.proofs.Common.{◌<◌, arith, length}
use Rattle.xa_tm.specs.LedgerBook.{transaction_at}
use Rattle.xa_tm.specs.Resolving.{rolled_back_by}
use Rattle.xa_tm.proofs.Maps.ResolveOpen.{room_first, rolled_more}
use Rattle.xa_tm.proofs.ledger.resolve_open.roll_back_all.Goals as goal

pub roll_back-requires : goal.roll_back-requires
roll_back-requires c =
    let gs = c.args.gtrids.now in
    let i = c.loop-g.g-index in
    let low : i < length gs = omega arith in
    room_first c.loop-g.map gs i _ low c.loop-g.invariant.0

pub loop-g-preserved : goal.loop-g-preserved
loop-g-preserved c =
    let gs = c.args.gtrids.now in
    let i = c.loop-g.g-index in
    let low : i < length gs = omega arith in
    rolled_more gs i _ c.loop-g.map c.roll_back.new.map
    (λ q. rolled_back_by gs q (transaction_at c.args.map.now q)) low c.roll_back.ensures.kept c.roll_back.ensures.at c.loop-g.invariant
