use Rattle.std.proofs.Common.{◌∙◌, sym, subst}
use Rattle.std.specs.List.Sorted.{IsStrictlySortedBy}
use Rattle.xa_base.specs.Branch.{branch_cmp}
use Rattle.xa_base.proofs.BranchOrder.{branches_total}
use Rattle.xa_log.proofs.KeySets.{items-from_list}
use Rattle.xa_tm.specs.LedgerBook.{started_keys}
use Rattle.xa_tm.proofs.manager.Manager.started.Goals as goal

pub returns-clause-all : goal.returns-clause-all
returns-clause-all g c =
    let all = c.in_ok-started.ensures.all in
    all ∙ sym (items-from_list branches_total (started_keys c.args.self.now.ledger.branches.entries)
    (subst (IsStrictlySortedBy branch_cmp) all c.in_ok-started.ensures.in_order))
