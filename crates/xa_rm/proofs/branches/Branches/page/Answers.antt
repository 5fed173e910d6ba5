use Rattle.std.proofs.Common.{◌≡◌, rules, IfOk, map, take, refl, ap, subst, ◌∙◌}
use Rattle.std.proofs.lemmas.Iterator.{items_from_collect, YieldsList-from_take, YieldsList-from_map}
use Rattle.std.proofs.lemmas.Iterator.Consumers.{YieldsList-from_rest, YieldsList-at}
use Rattle.std.proofs.lemmas.List.{map-id}
use Rattle.std.specs.BTreeSet.{keys_between}
use Rattle.std.specs.Vec.{vec_items}
use Rattle.std.specs.declared.ops.Bound.{Bound}
use Rattle.std.specs.declared.ops.Bound.TheVariants.{Unbounded}
use Rattle.xa_base.specs.Xid.{Xid, xid_cmp}
use Rattle.xa_rm.proofs.ScanLemmas.{keys_behind}
use Rattle.xa_rm.proofs.TableLemmas.{index_list}
use Rattle.xa_rm.proofs.branches.Branches.page.Goals as goal

pub returns-in_err-page-clause-in_doubt : goal.returns-in_err-page-clause-in_doubt
returns-in_err-page-clause-in_doubt c = index_list c.args.self.now.table c.args.self.now.index c.args.self.now.indexed c.range.ensures.ordered

pub returns-clause-in_doubt : goal.returns-clause-in_doubt
returns-clause-in_doubt c = index_list c.args.self.now.table c.args.self.now.index c.args.self.now.indexed c.range.ensures.ordered

pub returns-clause-page : goal.returns-clause-page
returns-clause-page c =
    let run = items_from_collect _ c.collect.ensures.ran
    (YieldsList-from_map _ (λ (x : Xid). x) (YieldsList-at c.map.ensures.source (YieldsList-from_take c.args.count (YieldsList-at c.take.ensures.source
    (YieldsList-from_rest c.range.result refl)) c.take.ensures.count)) c.map.ensures.closure (λ x r q k. search rules)) in
    let listed = subst (λ r. IfOk r (λ w. vec_items w ≡ map (λ (x : Xid). x) (take c.args.count c.range.result))) c.in_ok-page.was run in
    listed ∙ map-id (take c.args.count c.range.result)
    ∙ ap (take c.args.count) (c.range.ensures.between tt
    ∙ ap (λ (start : Bound Xid). keys_between xid_cmp start Unbounded c.args.self.now.index) c.bound.ensures
    ∙ keys_behind c.args.cursor.now c.args.self.now.index)
