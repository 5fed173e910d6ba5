use Rattle.std.proofs.Common.{◌≡◌, drop, map}
use Rattle.xa_base.specs.Branch.{branch_cmp}
use Rattle.xa_base.specs.declared.branch.Branch.{Branch}
use Rattle.xa_base.specs.declared.code.How.{How}
use Rattle.xa_log.specs.Starting.{ascends, ascends_behind}
use Rattle.xa_log.proofs.log_rows.do_ends_ascend.Given as goal

-- what is left decides
abbrev pub invariant-loop-end : goal.invariant-loop-end
invariant-loop-end l =
    ascends_behind branch_cmp l.last (map (λ (e : Branch × How). e.0) (drop l.end-index l.ends)) ≡ ascends branch_cmp (map (λ (e : Branch × How). e.0) l.ends)
