use Rattle.std.proofs.Common.{◌≡◌, map}
use Rattle.xa_system.specs.SystemView.{new_site}
use Rattle.xa_system.proofs.start.sites_of.Given as goal

abbrev pub invariant-loop-rm : goal.invariant-loop-rm
invariant-loop-rm g l = l.sites.items ≡ map new_site l.yielded
