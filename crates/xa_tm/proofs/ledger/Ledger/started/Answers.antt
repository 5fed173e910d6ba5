use Rattle.std.proofs.Common.{◌≡◌, rules, tests, sym, subst}
use Rattle.std.proofs.lemmas.Iterator.{items_from_collect, YieldsList-from_map}
use Rattle.std.proofs.lemmas.Iterator.Consumers.{YieldsList-from_filter, YieldsList-from_rest, YieldsList-at}
use Rattle.std.proofs.lemmas.Result.{IfOk-weaker}
use Rattle.std.specs.List.Sorted.{IsStrictlySortedBy}
use Rattle.std.specs.Vec.{vec_items}
use Rattle.xa_base.specs.Branch.{branch_cmp}
use Rattle.xa_base.specs.declared.branch.Branch.{Branch}
use Rattle.xa_tm.specs.LedgerBook.{started_keys}
use Rattle.xa_tm.specs.declared.notes.BranchNotes.{BranchNotes}
use Rattle.xa_tm.proofs.Maps.Order.{started_in_order}
use Rattle.xa_tm.proofs.ledger.Ledger.started.Goals as goal

pub returns-clause-all : goal.returns-clause-all
returns-clause-all c =
    let m = c.args.self.now.branches in
    items_from_collect _ c.collect.ensures.ran
    (YieldsList-from_map _ (λ (e : Branch × BranchNotes). e.0)
    (YieldsList-at c.map.ensures.source
    (YieldsList-from_filter _ (λ (e : Branch × BranchNotes). e.1.is_started)
    (YieldsList-at c.filter.ensures.source (YieldsList-from_rest m.entries c.iter.ensures.rest)) c.filter.ensures.closure (λ x b q k. search (rules, tests))))
    c.map.ensures.closure (λ x r q k. search rules))

pub returns-clause-in_order : goal.returns-clause-in_order
returns-clause-in_order c =
    let m = c.args.self.now.branches in
    IfOk-weaker c.collect.result (λ w. vec_items w ≡ started_keys m.entries) _
    (λ w is. subst (IsStrictlySortedBy branch_cmp) (sym is) (started_in_order m.entries c.iter.ensures.ordered))
    (returns-clause-all c)
