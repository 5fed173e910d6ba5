use Rattle.std.proofs.Common.{rules, List, sym, subst}
use Rattle.std.specs.BTreeSet.{BTreeSet}
use Rattle.xa_base.specs.Xid.{Xid}
use Rattle.xa_rm.specs.Branches.{ListsIf}
use Rattle.xa_rm.proofs.TableLemmas.{lists_same, on_err}
use Rattle.xa_rm.proofs.branches.list_in_doubt.Goals as goal

pub returns-in_err-insert-in-false-true-clause-err : goal.returns-in_err-insert-in-false-true-clause-err
returns-in_err-insert-in-false-true-clause-err c =
    let keys = sym c.in_err-insert-in-false-true.ensures.err in
    on_err c.from_residual.result
    (subst (λ (ks : List Xid). let new : BTreeSet Xid = record { keys = ks } in ListsIf c.args.index.now new c.args.xid.now c.args.was_in_doubt) keys
    (lists_same c.args.index.now c.args.xid.now c.args.was_in_doubt c.requires))

pub returns-then-is_in_doubt-clause-ok : goal.returns-then-is_in_doubt-clause-ok
returns-then-is_in_doubt-clause-ok c = lists_same c.args.index.now c.args.xid.now _ (search rules)

pub returns-else-this-clause-ok : goal.returns-else-this-clause-ok
returns-else-this-clause-ok c = lists_same c.args.index.now c.args.xid.now _ (search rules)
