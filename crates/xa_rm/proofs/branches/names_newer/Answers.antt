use Rattle.std.proofs.Common.{rules, ◌≡◌, ◌∙◌, ap}
use Rattle.std.specs.Prelude.{not}
use Rattle.xa_rm.specs.ResourceManager.{is_past, names_newer}
use Rattle.xa_rm.proofs.TableLemmas.{newer_by_branch}
use Rattle.xa_rm.proofs.branches.names_newer.Goals.{then-branch-rm, else-branch-rm, then-branch-incarnation, else-branch-incarnation}
use Rattle.xa_rm.proofs.branches.names_newer.Goals as goal

pub returns-after-branch-incarnation : goal.returns-after-branch-incarnation
returns-after-branch-incarnation c = ap not is ∙ newer
  where
    newer : not (is_past c.args.rm c.args.incarnation c.in_Some-branch.branch) ≡ names_newer c.args.rm c.args.incarnation c.args.xid.now
    newer = newer_by_branch c.args.rm c.args.incarnation c.args.xid.now c.in_Some-branch.branch c.format.ensures.valid
        c.in_Some-branch.ensures.branch c.in_Some-branch.ensures.found

    is : c.if-branch-incarnation.result ≡ is_past c.args.rm c.args.incarnation c.in_Some-branch.branch
    is = elim c.if-branch-rm.branch [
      | then-branch-rm w ↦ (elim c.if-branch-incarnation.branch [
        | then-branch-incarnation v ↦ (search rules)
        | else-branch-incarnation v ↦ (search rules)
      ])
      | else-branch-rm w ↦ (elim c.if-branch-incarnation.branch [
        | then-branch-incarnation v ↦ (search rules)
        | else-branch-incarnation v ↦ (search rules)
      ])
    ]
