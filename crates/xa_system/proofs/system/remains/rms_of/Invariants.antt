use Rattle.std.proofs.Common.{◌≡◌, ◌++◌, map}
use Rattle.std.specs.Vec.{vec_capacity}
use Rattle.xa_system.specs.declared.site.Site.{Site}
use Rattle.xa_system.proofs.system.remains.rms_of.Given as goal

abbrev pub invariant-loop-site : goal.invariant-loop-site
invariant-loop-site g l =
    (l.rms.items ≡ l.fn.rms.items ++ map (λ (site : Site g.row.R.Denot). site.rm) l.yielded) × (vec_capacity l.rms ≡ vec_capacity l.fn.rms)
