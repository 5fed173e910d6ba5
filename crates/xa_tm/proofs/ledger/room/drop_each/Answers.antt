use Rattle.std.proofs.Common.{◌<◌, ◌≤◌, ◌∙◌, arith, length, sym}
use Rattle.xa_tm.specs.LedgerBook.{row_at}
use Rattle.xa_tm.proofs.Maps.ResolveOpen.{room_first}
use Rattle.xa_tm.proofs.Several.Lists.{past_end}
use Rattle.xa_tm.proofs.Several.Room.{dropped_all, dropped_more, room_rest}
use Rattle.xa_tm.proofs.ledger.room.drop_each.Goals as goal

pub set_row-requires : goal.set_row-requires
set_row-requires c =
    let gs = c.args.gtrids.now in
    let i = c.loop-g.g-index in
    let low : i < length gs = omega arith in
    room_first c.loop-g.map gs i past_end low c.loop-g.invariant.room

pub loop-g-preserved : goal.loop-g-preserved
loop-g-preserved c =
    let gs = c.args.gtrids.now in
    let i = c.loop-g.g-index in
    let low : i < length gs = omega arith in
    record {
      room = room_rest c.loop-g.map c.set_row.new.map gs i past_end low c.set_row.ensures.kept c.loop-g.invariant.room;
      rows = λ q.
          dropped_more gs i past_end q (row_at c.set_row.new.map q) (row_at c.loop-g.map q) low (c.set_row.ensures.at q) ∙ c.loop-g.invariant.rows q;
    }

pub returns : goal.returns
returns c = λ q.
    let gs = c.args.gtrids.now in
    let i = c.loop-g.g-index in
    let past : length gs ≤ i = omega arith in
    sym (dropped_all gs i q (row_at c.loop-g.map q) past) ∙ c.loop-g.invariant.rows q
