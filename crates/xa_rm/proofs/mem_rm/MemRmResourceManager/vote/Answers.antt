use Rattle.std.proofs.Common.{ap, ◌∙◌, refl}
use Rattle.xa_rm.proofs.CallLemmas.{changed_there}
use Rattle.xa_rm.specs.Branches.{held_at}
use Rattle.xa_rm.specs.ResourceManager.{voting}
use Rattle.xa_rm.proofs.mem_rm.MemRmResourceManager.vote.Goals as goal

pub returns-clause-ok : goal.returns-clause-ok
returns-clause-ok c =
    record {
      held = λ x.
          c.in_ok-set.ensures.ok x
          ∙ changed_there (held_at c.args.self.now.branches.table) (voting c.args.vote) c.args.xid.now _ (ap (voting c.args.vote) c.get-held.ensures) x;
      scans = λ t. refl;
    }
