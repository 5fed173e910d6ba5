use Rattle.std.proofs.Common.{◌∙◌, rules, tests}
use Rattle.std.proofs.lemmas.Iterator.{YieldsList-from_slice}
use Rattle.std.proofs.lemmas.Iterator.Search.{any_from_yields_List}
use Rattle.xa_base.specs.Branch.{gtrid_eq}
use Rattle.xa_log.specs.declared.decision.Decision.{Decision}
use Rattle.xa_tm.proofs.Several.Lists.{named_decided}
use Rattle.xa_tm.proofs.ledger.compare.is_decided.Goals as goal

pub returns : goal.returns
returns c =
    any_from_yields_List (λ (d : Decision). gtrid_eq d.gtrid c.args.g) _ _ c.any.result c.any.ensures.ran
    (YieldsList-from_slice c.args.decisions.now cc) (λ x b q k. search (rules, tests))
    ∙ named_decided c.args.g c.args.decisions.now
