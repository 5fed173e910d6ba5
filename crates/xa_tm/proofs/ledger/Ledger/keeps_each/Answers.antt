use Rattle.std.proofs.Common.{◌≡◌, ◌+◌, ◌<◌, ◌∙◌, ◌&&◌, List, arith, get_or, length, not, subst, sym, true, false}
use Rattle.xa_base.specs.declared.branch.Gtrid.{Gtrid}
use Rattle.xa_model.specs.Facts.{has_gtrid}
use Rattle.xa_tm.specs.Swaps.{keeps_row}
use Rattle.xa_tm.proofs.Several.Lists.{once_fails, once_more, past_end, rest_of}
use Rattle.xa_tm.proofs.ledger.Ledger.keeps_each.Goals as goal

pub loop-i-preserved : goal.loop-i-preserved
loop-i-preserved c =
    let k = c.args.self.now in
    let gs = c.args.gtrids.now in
    let i = c.loop-i.i in
    let x = get_or gs i past_end in
    let low : i < length gs = omega arith in
    once_more (keeps_row k) gs i past_end low
    (subst (λ (l : List Gtrid). (keeps_row k x && not (has_gtrid l x)) ≡ true) (rest_of gs (i + 1)) (sym c.if-not-keeps_apart.ensures)) ∙ c.loop-i.invariant

pub returns-then-not-keeps_apart : goal.returns-then-not-keeps_apart
returns-then-not-keeps_apart c =
    let k = c.args.self.now in
    let gs = c.args.gtrids.now in
    let i = c.loop-i.i in
    let x = get_or gs i past_end in
    let low : i < length gs = omega arith in
    sym (once_fails (keeps_row k) gs i past_end low
    (subst (λ (l : List Gtrid). (keeps_row k x && not (has_gtrid l x)) ≡ false) (rest_of gs (i + 1)) (sym c.if-not-keeps_apart.ensures))) ∙ c.loop-i.invariant
