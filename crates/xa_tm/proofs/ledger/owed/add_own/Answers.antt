use Rattle.std.proofs.Common.{rules, tests}
use Rattle.std.proofs.lemmas.Iterator.{YieldsList-from_slice}
use Rattle.std.proofs.lemmas.Iterator.Adapters.{items_from_extend}
use Rattle.std.proofs.lemmas.Iterator.Consumers.{YieldsList-at, YieldsList-from_copied, YieldsList-from_filter}
use Rattle.std.proofs.lemmas.Result.{on_ok_weaker}
use Rattle.xa_tm.specs.Owed.{is_own_at}
use Rattle.xa_tm.proofs.ledger.owed.add_own.Goals as goal

pub returns : goal.returns
returns c =
    let run = items_from_extend c.extend.result c.extend.ensures.ran
    (YieldsList-from_filter _ (is_own_at c.args.g c.args.rm)
    (YieldsList-at c.filter.ensures.source
    (YieldsList-from_copied (YieldsList-at c.copied.ensures.source (YieldsList-from_slice c.args.waiting.now cc)))) c.filter.ensures.closure
    (λ x b q k. search (rules, tests))) in
    on_ok_weaker c.extend.result (λ made. made.0) run
