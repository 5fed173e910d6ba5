use Rattle.std.proofs.Common.{◌∙◌, rules, tests}
use Rattle.std.proofs.lemmas.Iterator.{YieldsList-from_slice}
use Rattle.std.proofs.lemmas.Iterator.Consumers.{YieldsList-at, count_from_yields_List}
use Rattle.std.proofs.lemmas.Iterator.Search.{YieldsList-from_take_while}
use Rattle.std.proofs.lemmas.List.Folds.{length-prefix_len}
use Rattle.xa_listing.specs.Lines.{is_of_transaction}
use Rattle.xa_listing.proofs.lines.own_count.Goals as goal

pub returns-clause-count : goal.returns-clause-count
returns-clause-count c =
    let branches = c.args.branches.now in
    count_from_yields_List _ c.count.result c.count.ensures.ran
    (YieldsList-from_take_while _ (is_of_transaction c.args.g)
    (YieldsList-at c.take_while.ensures.source
    (YieldsList-from_slice branches c.iter.ensures.rest)) c.take_while.ensures.closure c.take_while.ensures.done (λ x b q h. search (rules, tests)))
    ∙ length-prefix_len (is_of_transaction c.args.g) branches
