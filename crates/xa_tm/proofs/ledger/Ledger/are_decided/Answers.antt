use Rattle.std.proofs.Common.{◌&&◌, true, ap, ◌∙◌, rules, tests}
use Rattle.std.specs.List.{list_all}
use Rattle.std.proofs.lemmas.Iterator.{YieldsList-from_slice}
use Rattle.std.proofs.lemmas.Iterator.Search.{all_from_yields_List}
use Rattle.xa_log.specs.declared.decision.Decision.{Decision}
use Rattle.xa_tm.specs.Swaps.{row_agrees}
use Rattle.xa_tm.proofs.ledger.Ledger.are_decided.Goals as goal

pub returns-then-lacks_each : goal.returns-then-lacks_each
returns-then-lacks_each c =
    let agrees = λ (d : Decision). row_agrees true c.args.self.now c.args.read.now d.gtrid in
    all_from_yields_List agrees _ _ c.all.result c.all.ensures.ran (YieldsList-from_slice c.args.decisions.now cc) (λ x b q k. search (rules, tests))
    ∙ ap (λ t. t && list_all agrees c.args.decisions.now) c.if-lacks_each.ensures
