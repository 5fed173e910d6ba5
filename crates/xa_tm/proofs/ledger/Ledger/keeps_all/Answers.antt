use Rattle.std.proofs.Common.{◌≡◌, Bool, true, false, not, ◌&&◌, refl, ap, ◌∙◌}
use Rattle.xa_model.specs.Facts.{has_gtrid}
use Rattle.xa_tm.specs.Swaps.{each_once, keeps_row}
use Rattle.xa_tm.proofs.ledger.Ledger.keeps_all.Goals as goal

joined : (a b c : Bool) → ((a && b) && c) ≡ (a && (b && c))
joined true b c = refl
joined false b c = refl

pub returns-then-keeps_apart : goal.returns-then-keeps_apart
returns-then-keeps_apart c =
    let k = c.args.self.now in
    let g = c.args.first in
    let gs = c.args.others.now in
    c.keeps_each.ensures ∙ ap (λ t. t && each_once (keeps_row k) gs) c.if-keeps_apart.ensures
    ∙ joined (keeps_row k g) (not (has_gtrid gs g)) (each_once (keeps_row k) gs)

pub returns-else-keeps_apart : goal.returns-else-keeps_apart
returns-else-keeps_apart c =
    let k = c.args.self.now in
    let g = c.args.first in
    let gs = c.args.others.now in
    c.if-keeps_apart.false ∙ ap (λ t. t && each_once (keeps_row k) gs) c.if-keeps_apart.ensures
    ∙ joined (keeps_row k g) (not (has_gtrid gs g)) (each_once (keeps_row k) gs)
