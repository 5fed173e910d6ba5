use Rattle.std.proofs.Common.{ap, ◌∙◌, refl}
use Rattle.xa_rm.proofs.CallLemmas.{changed_there}
use Rattle.xa_rm.specs.Branches.{held_at}
use Rattle.xa_rm.specs.ResourceManager.{retrying}
use Rattle.xa_rm.proofs.mem_rm.MemRmResourceManager.retry.Goals as goal

pub returns-clause-ok : goal.returns-clause-ok
returns-clause-ok c =
    record {
      held = λ x.
          c.in_ok-set.ensures.ok x
          ∙ changed_there (held_at c.args.self.now.branches.table) (retrying c.args.times) c.args.xid.now _ (ap (retrying c.args.times) c.get-held.ensures) x;
      scans = λ t. refl;
    }
