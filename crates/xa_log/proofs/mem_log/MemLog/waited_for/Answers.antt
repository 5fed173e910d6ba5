use Rattle.std.proofs.Common.{◌≡◌, Some, None, IfOk, rules, subst, ◌∙◌}
use Rattle.std.specs.BTreeMap as tree
use Rattle.std.specs.Vec.{vec_items}
use Rattle.std.proofs.lemmas.Iterator.{items_from_collect}
use Rattle.std.proofs.lemmas.Iterator.Consumers.{YieldsList-from_copied, YieldsList-from_rest, YieldsList-at}
use Rattle.xa_base.specs.Branch.{gtrid_cmp}
use Rattle.xa_log.proofs.InOrder.{row_listed, row_missing}
use Rattle.xa_log.proofs.mem_log.MemLog.waited_for.Goals as goal

pub returns-clause-ok : goal.returns-clause-ok
returns-clause-ok c =
    let there : tree.get gtrid_cmp c.args.self.now.decisions c.args.g ≡ Some c.in-Some.waited_for.now = search rules in
    let run = items_from_collect _ c.collect.ensures.ran
    (YieldsList-from_copied (YieldsList-at c.copied.ensures.source (YieldsList-from_rest c.in-Some.waited_for.now.keys c.iter.ensures.rest))) in
    let listed = subst (λ r. IfOk r (λ w. vec_items w ≡ c.in-Some.waited_for.now.keys)) c.in_ok-list.was run in
    listed ∙ row_listed c.args.self.now.decisions c.args.g c.in-Some.waited_for.now there c.iter.ensures.ordered

pub returns-in_default-clause-ok : goal.returns-in_default-clause-ok
returns-in_default-clause-ok c =
    let none : tree.get gtrid_cmp c.args.self.now.decisions c.args.g ≡ None = search rules in
    c.new.ensures.items ∙ row_missing c.args.self.now.decisions c.args.g none
