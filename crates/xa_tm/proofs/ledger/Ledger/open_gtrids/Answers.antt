use Rattle.std.proofs.Common.{◌≡◌, ◌&&◌, rules, tests, ap, ◌∙◌}
use Rattle.std.proofs.lemmas.Iterator.{items_from_collect, YieldsList-from_slice}
use Rattle.std.proofs.lemmas.Iterator.Consumers.{YieldsList-from_filter_map, YieldsList-at}
use Rattle.std.proofs.lemmas.Result.{IfOk-weaker}
use Rattle.std.specs.List.{filter_map}
use Rattle.std.specs.Vec.{vec_items}
use Rattle.xa_model.specs.Facts.HeardAnswers.{lists_one_of}
use Rattle.xa_tm.specs.LedgerBook.{as_book}
use Rattle.xa_tm.specs.Resolving.{is_one_of, open_gtrid_for, open_in}
use Rattle.xa_tm.proofs.Maps.ResolveOpen.{opens_are}
use Rattle.xa_tm.proofs.ledger.Ledger.open_gtrids.Goals as goal

pub returns : goal.returns
returns c =
    let k = as_book c.args.self.now in
    let xids = c.page.result.now in
    let run = items_from_collect _ c.collect.ensures.ran
    (YieldsList-from_filter_map _ (open_gtrid_for k)
    (YieldsList-at c.filter_map.ensures.source (YieldsList-from_slice xids cc)) c.filter_map.ensures.closure (λ x r q h. search (rules, tests))) in
    IfOk-weaker c.collect.result (λ w. vec_items w ≡ filter_map (open_gtrid_for k) xids) _ (λ w is q.
    ap (λ gs. is_one_of gs q) is ∙ opens_are k xids q ∙ ap (λ names. lists_one_of q names && open_in k q) c.page.ensures) run
