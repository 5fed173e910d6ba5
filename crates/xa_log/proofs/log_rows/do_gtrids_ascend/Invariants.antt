use Rattle.std.proofs.Common.{◌≡◌, drop}
use Rattle.xa_base.specs.Branch.{gtrid_cmp}
use Rattle.xa_log.specs.Starting.{ascends, ascends_behind}
use Rattle.xa_log.proofs.log_rows.do_gtrids_ascend.Given as goal

-- what is left decides
abbrev pub invariant-loop-g : goal.invariant-loop-g
invariant-loop-g l = ascends_behind gtrid_cmp l.last (drop l.g-index l.decisions) ≡ ascends gtrid_cmp l.decisions
