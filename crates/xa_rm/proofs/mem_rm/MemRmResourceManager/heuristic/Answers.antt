use Rattle.std.proofs.Common.{◌≡◌, rules, ap, sym, ◌∙◌, refl}
use Rattle.xa_base.specs.HeldBranch.{HeldBranch, completed_by}
use Rattle.xa_base.specs.StateTable as StateTable
use Rattle.xa_base.specs.declared.state.Standing.{Standing}
use Rattle.xa_base.specs.declared.state.Standing.TheVariants.{Prepared, Completed}
use Rattle.xa_rm.proofs.CallLemmas.{changed_there}
use Rattle.xa_rm.specs.Branches.{held_at}
use Rattle.xa_rm.specs.TableEntries.{held_branch}
use Rattle.xa_rm.proofs.mem_rm.MemRmResourceManager.heuristic.Goals as goal

pub returns-clause-ok : goal.returns-clause-ok
returns-clause-ok c =
    record {
      held = λ x.
          let prepared : c.get-held.result.standing ≡ Prepared = search rules in
          let completed : held_branch (record c.get-held.result { standing = Completed c.args.how }) ≡ completed_by c.args.how (held_branch c.get-held.result) =
          ap (λ (s : Standing). let b : HeldBranch = record (held_branch c.get-held.result) { standing = s } in b)
          (ap (λ (s : Standing). StateTable.completed s c.args.how) (sym prepared)) in
          c.in_ok-set.ensures.ok x
          ∙ changed_there (held_at c.args.self.now.branches.table) (completed_by c.args.how) c.args.xid.now _
          (completed ∙ ap (completed_by c.args.how) c.get-held.ensures) x;
      scans = λ t. refl;
    }
