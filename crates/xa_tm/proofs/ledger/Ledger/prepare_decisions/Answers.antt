use Rattle.std.proofs.Common.{◌<◌, ◌≤◌, ◌∙◌, arith, length}
use Rattle.xa_tm.specs.LedgerBook.{as_book}
use Rattle.xa_tm.proofs.Several.Lists.{past_end}
use Rattle.xa_tm.proofs.Several.InTurn.{all_prepared, all_rows, room_prepared, rows_prepared}
use Rattle.xa_tm.proofs.ledger.Ledger.prepare_decisions.Goals as goal

pub loop-g-preserved : goal.loop-g-preserved
loop-g-preserved c =
    let gs = c.args.gtrids.now in
    let i = c.loop-g.g-index in
    let low : i < length gs = omega arith in
    let k = as_book c.args.self.now in
    let made = c.in_ok-prepare_decision.ensures in
    record {
      book = c.prepare_decision.ensures.book ∙ c.loop-g.invariant.book;
      room =
          room_prepared k c.args.outcome gs i past_end low c.loop-g.self c.prepare_decision.new.self c.loop-g.invariant.book c.loop-g.invariant.room made.room;
      all =
          rows_prepared k c.args.outcome gs i past_end low (as_book c.loop-g.self) c.loop-g.decisions.items c.prepare_decision.new.decisions.items
          c.loop-g.invariant.book c.loop-g.invariant.all made.all;
      own = made.own c.loop-g.invariant.own;
    }

pub returns-clause-room : goal.returns-clause-room
returns-clause-room c =
    let gs = c.args.gtrids.now in
    let i = c.loop-g.g-index in
    let past : length gs ≤ i = omega arith in
    all_prepared (as_book c.args.self.now) c.args.outcome gs i c.loop-g.self past c.loop-g.invariant.room

pub returns-clause-all : goal.returns-clause-all
returns-clause-all c =
    let gs = c.args.gtrids.now in
    let i = c.loop-g.g-index in
    let past : length gs ≤ i = omega arith in
    all_rows (as_book c.args.self.now) c.args.outcome gs i c.loop-g.decisions.items past c.loop-g.invariant.all
