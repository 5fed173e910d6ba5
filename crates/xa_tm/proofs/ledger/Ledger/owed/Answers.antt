use Rattle.std.proofs.Common.{◌≡◌, ◌∙◌, ◌||◌, Bool, true, false, Option, map, ap, refl, rules, sym}
use Rattle.std.specs.BTreeSet.{contains}
use Rattle.std.specs.Global.{Vec}
use Rattle.std.specs.List.{list_any}
use Rattle.std.specs.Map.Iter.{deref_pair}
use Rattle.std.specs.Ordering.{eq_by_cmp}
use Rattle.std.specs.Vec.{vec_items}
use Rattle.std.proofs.lemmas.Iterator.{YieldsList-from_map, items_from_collect}
use Rattle.std.proofs.lemmas.Iterator.Consumers.{YieldsList-at, YieldsList-from_rest}
use Rattle.std.proofs.lemmas.Map.Iter.{rest_all, rest_more}
use Rattle.std.proofs.lemmas.Result.{IfOk-weaker}
use Rattle.xa_base.specs.Branch.{branch_cmp, xid_of_branch}
use Rattle.xa_base.specs.declared.branch.Branch.{Branch}
use Rattle.xa_base.specs.declared.branch.Gtrid.{Gtrid}
use Rattle.xa_base.proofs.BranchOrder.{branches_total}
use Rattle.xa_log.proofs.KeySets.{items-from_list}
use Rattle.xa_log.specs.KeySet.{contains-from_list, from_list}
use Rattle.xa_tm.proofs.Maps.OwedRows.{any_owes, not_earlier, owed_is}
use Rattle.xa_tm.proofs.ledger.Ledger.owed.Goals as goal

pub loop-g-init : goal.loop-g-init
loop-g-init c = λ q.
    ap (λ ks. list_any (eq_by_cmp branch_cmp q) ks || any_owes c.args.self.now.incarnation c.args.rm q c.into_iter-g-iterator.result) c.new-owed.ensures.empty
    ∙ ap (any_owes c.args.self.now.incarnation c.args.rm q) (c.into_iter-g-iterator.ensures.into_iter_gives ∙ c.iter-g-items.ensures.rest)

pub loop-g-preserved : goal.loop-g-preserved
loop-g-preserved c = λ q.
    let i = c.args.self.now.incarnation in
    let rm = c.args.rm in
    let e : Gtrid × Option (Vec Branch) = (c.in-Some.g.now, c.in-Some.row.now) in
    ap (λ t. contains branch_cmp c.loop-g.owed q || t)
    (sym (not_earlier i rm q e c.next.new.self c.if-g-self.false)
    ∙ ap (any_owes i rm q)
    (sym (rest_more deref_pair c.loop-g.g-iterator c.next.new.self c.next.result (c.in-Some.g, c.in-Some.row) c.in-Some.is c.next.ensures.steps)))
    ∙ c.loop-g.invariant q

pub returns : goal.returns
returns c =
    let i = c.args.self.now.incarnation in
    let rm = c.args.rm in
    let set = c.loop-g.owed in
    let ordered = c.iter.ensures.ordered in
    let run = items_from_collect _ c.collect.ensures.ran
    (YieldsList-from_map _ xid_of_branch (YieldsList-at c.map.ensures.source (YieldsList-from_rest set.keys c.iter.ensures.rest))
    c.map.ensures.closure (λ x r q k. search rules)) in
    let none = rest_all deref_pair c.loop-g.g-iterator c.next.new.self c.next.result c.in-None.is c.next.ensures.steps in
    IfOk-weaker c.collect.result (λ list. vec_items list ≡ map xid_of_branch set.keys) _
    (λ list is. record {
      set = from_list set.keys;
      listed = is ∙ ap (map xid_of_branch) (sym (items-from_list branches_total set.keys ordered));
      each = λ q.
          contains-from_list branches_total set.keys q ∙ or_nothing (contains branch_cmp set q)
          ∙ ap (λ es. contains branch_cmp set q || any_owes i rm q es) (sym none) ∙ c.loop-g.invariant q
          ∙ owed_is c.args.self.now rm q c.iter-g-items.ensures.ordered;
    }) run
  where
    or_nothing : (t : Bool) → t ≡ (t || false)
    or_nothing true = refl
    or_nothing false = refl
