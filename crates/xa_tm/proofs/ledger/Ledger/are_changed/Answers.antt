use Rattle.std.proofs.Common.{◌&&◌, true, ap, ◌∙◌, rules, tests}
use Rattle.std.specs.List.{list_all}
use Rattle.std.proofs.lemmas.Iterator.{YieldsList-from_slice}
use Rattle.std.proofs.lemmas.Iterator.Search.{all_from_yields_List}
use Rattle.xa_tm.specs.Swaps.{row_agrees}
use Rattle.xa_tm.proofs.ledger.Ledger.are_changed.Goals as goal

pub returns-then-row_agrees : goal.returns-then-row_agrees
returns-then-row_agrees c =
    let agrees = row_agrees true c.args.self.now c.args.read.now in
    all_from_yields_List agrees _ _ c.all.result c.all.ensures.ran (YieldsList-from_slice c.args.others.now cc) (λ x b q k. search (rules, tests))
    ∙ ap (λ t. t && list_all agrees c.args.others.now) c.if-row_agrees.ensures
