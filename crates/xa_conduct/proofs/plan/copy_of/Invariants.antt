use Rattle.std.proofs.Common.{◌≡◌, true, take}
use Rattle.std.specs.List.{list_all}
use Rattle.xa_conduct.specs.Plain.{is_gtrid}
use Rattle.xa_conduct.proofs.plan.copy_of.Given as goal

-- so many were copied
abbrev pub invariant-loop-gtrid : goal.invariant-loop-gtrid
invariant-loop-gtrid l = (list_all is_gtrid l.copy.items ≡ true) × (l.copy.items ≡ take l.gtrid-index l.gtrids)
