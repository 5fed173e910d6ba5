use Rattle.std.proofs.Common.{refl, sym, ◌∙◌}
use Rattle.xa_base.specs.declared.refusal.Refusal.TheVariants as Refusals
use Rattle.xa_base.specs.declared.step.Part.TheVariants as KnownParts
use Rattle.xa_base.specs.declared.step.Step.TheVariants as Steps
use Rattle.xa_model.specs.Trace.{Happening.Crashed}
use Rattle.xa_system.proofs.Log.Changes.{log_kept}
use Rattle.xa_system.specs.Parts.{sees}
use Rattle.xa_system.proofs.Steps.CrashManager.{crash_manager_down, crash_manager_leads}
use Rattle.xa_system.proofs.Histories.RefusedSteps.{refused_goes}
use Rattle.xa_system.proofs.parts.Parts.crash_manager.Goals as goal

pub returns-then-not-is_up : goal.returns-then-not-is_up
returns-then-not-is_up g c =
    let see = sees g.R.ResourceManager.look g.L.DecisionLog.moment in
    let p = c.args.self.now in
    refused_goes see (Steps.Crash KnownParts.Manager) p c.refused.result Refusals.ManagerDown tt c.refused.ensures
    (λ tr stands. crash_manager_down see tr p (sym c.is_up.ensures ∙ c.if-not-is_up.true) stands)

pub returns : goal.returns
returns g c tr stands few =
    let see = sees g.R.ResourceManager.look g.L.DecisionLog.moment in
    let p = c.args.self.now in
    crash_manager_leads see p c.crash_all.new.sites c.renew_all.new.self c.crash.new.self c.new.result c.new.ensures
    (sym c.is_up.ensures ∙ c.if-not-is_up.false) c.crash_all.ensures c.renew_all.ensures c.crash.ensures.book
    (λ tr. log_kept see.moment (Crashed KnownParts.Manager) p.manager c.crash.new.self (λ n. refl) c.crash.ensures.log c.crash.ensures.tied) tr stands
