use Rattle.std.proofs.Common.{◌<◌, ◌≤◌, ◌∙◌, arith, length, sym}
use Rattle.xa_tm.specs.LedgerBook.{as_book}
use Rattle.xa_tm.proofs.Several.Lists.{past_end}
use Rattle.xa_tm.proofs.Several.InTurn.{done_all, done_more, first_kept, others_kept}
use Rattle.xa_tm.proofs.ledger.Ledger.done_all.Goals as goal

pub done-requires : goal.done-requires
done-requires c =
    let gs = c.args.gtrids.now in
    let low : c.loop-g.g-index < length gs = omega arith in
    first_kept gs c.loop-g.g-index past_end low (as_book c.loop-g.self) c.loop-g.invariant.kept

pub loop-g-preserved : goal.loop-g-preserved
loop-g-preserved c =
    let gs = c.args.gtrids.now in
    let i = c.loop-g.g-index in
    let low : i < length gs = omega arith in
    record {
      kept = others_kept gs i past_end low (as_book c.loop-g.self) (as_book c.done.new.self) c.done.ensures c.loop-g.invariant.kept;
      rest = done_more gs i past_end low (as_book c.loop-g.self) (as_book c.done.new.self) c.done.ensures ∙ c.loop-g.invariant.rest;
    }

pub returns : goal.returns
returns c =
    let gs = c.args.gtrids.now in
    let i = c.loop-g.g-index in
    let past : length gs ≤ i = omega arith in
    sym (done_all (as_book c.loop-g.self) gs i past) ∙ c.loop-g.invariant.rest
