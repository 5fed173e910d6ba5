use Rattle.std.proofs.Common.{subst}
use Rattle.xa_model.specs.Promises.Headline.{Headline, HeadlineSince}
use Rattle.xa_model.specs.Promises.Processes.{Resumes, resumed}
use Rattle.xa_model.specs.Protocol.{AllRight, RightOrigin}
use Rattle.xa_model.specs.Trace.{Trace}
use Rattle.xa_system.specs.SystemView.{HoldsItsTrace, observes, origin_in, system_view_of}
use Rattle.xa_system.proofs.Histories.SystemView.{holds}
use Rattle.xa_system.proofs.system.System.agree.Goals as goal

pub returns-clause-parts : goal.returns-clause-parts
returns-clause-parts g c =
    let see = observes g.R.ResourceManager.look g.L.DecisionLog.moment in
    subst (λ v. HoldsItsTrace see v) c.self.view_is (holds _ _ c.self.inside c.self.invariant)

pub returns-clause-headline : goal.returns-clause-headline
returns-clause-headline g c =
    let see = observes g.R.ResourceManager.look g.L.DecisionLog.moment in
    subst (λ v. RightOrigin (origin_in see.look v) → Headline (origin_in see.look v) v.events) c.self.view_is
    (λ right. c.headline_holds.ensures (origin_in see.look (system_view_of c.self.inside)) (system_view_of c.self.inside).events right c.self.invariant.allowed)

pub returns-clause-resumed : goal.returns-clause-resumed
returns-clause-resumed g c =
    let see = observes g.R.ResourceManager.look g.L.DecisionLog.moment in
    subst (λ v. (past : Trace) → AllRight past → Resumes past (origin_in see.look v)
    → HeadlineSince (resumed past (origin_in see.look v)) v.events) c.self.view_is
    (λ past right resumes. c.across_processes.ensures.headline past (origin_in see.look (system_view_of c.self.inside)) (system_view_of c.self.inside).events
    (record { right = right; resumes = resumes; allowed = c.self.invariant.allowed }))
