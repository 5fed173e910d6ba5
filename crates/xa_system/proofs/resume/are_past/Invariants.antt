use Rattle.xa_system.specs.SystemView.{IsOfPast}
use Rattle.xa_system.specs.declared.site.Site.{Site}
use Rattle.xa_system.proofs.Histories.HoldsBelow.{HoldsBelow}
use Rattle.xa_system.proofs.resume.are_past.Given as goal

-- those so far are of the past
abbrev pub invariant-loop-rm : goal.invariant-loop-rm
invariant-loop-rm g l = HoldsBelow (λ r (site : Site g.row.R.Denot).
    IsOfPast g.R.ResourceManager.look l.fn.incarnation r site.rm)
    l.sites l.rm
