use Rattle.std.specs.BTreeSet as sorted
use Rattle.std.proofs.lemmas.Iterator.{YieldsList-from_slice}
use Rattle.std.proofs.lemmas.Iterator.Adapters.{fact_from_collect}
use Rattle.std.proofs.lemmas.Iterator.Consumers.{YieldsList-from_copied, YieldsList-at}
use Rattle.std.proofs.lemmas.Result.{IfOk-weaker}
use Rattle.xa_base.specs.Branch.{branch_cmp}
use Rattle.xa_log.proofs.HeldRows.{collected_set}
use Rattle.xa_log.proofs.mem_log.set_of.Goals as goal

pub returns : goal.returns
returns c = IfOk-weaker c.collect.result (sorted.IsFromIterResult branch_cmp c.args.branches.now) _ (λ set made. collected_set c.args.branches.now set made.0)
    (fact_from_collect (sorted.IsFromIterResult branch_cmp) c.collect.result c.collect.ensures.ran
    (YieldsList-from_copied (YieldsList-at c.copied.ensures.source (YieldsList-from_slice c.args.branches.now cc))))
