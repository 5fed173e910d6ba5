use Rattle.std.proofs.Common.{refl, sym, ◌∙◌}
use Rattle.xa_base.specs.declared.refusal.Refusal.TheVariants as Refusals
use Rattle.xa_base.specs.declared.step.Part.TheVariants as KnownParts
use Rattle.xa_base.specs.declared.step.Step.TheVariants as Steps
use Rattle.xa_model.specs.Trace.{Happening.Crashed}
use Rattle.xa_system.proofs.Log.Changes.{log_kept}
use Rattle.xa_system.specs.Parts.{sees}
use Rattle.xa_system.proofs.Steps.Crash.{crash_line_down, crash_line_leads, crash_line_limit, crash_line_rm_down}
use Rattle.xa_system.proofs.Steps.PresentRms.{same_up}
use Rattle.xa_system.proofs.Histories.Standing.{site_read}
use Rattle.xa_system.proofs.Histories.RefusedSteps.{refused_goes}
use Rattle.xa_system.proofs.parts.Parts.crash_line.Goals as goal

pub returns-then-not-has : goal.returns-then-not-has
returns-then-not-has g c =
    let see = sees g.R.ResourceManager.look g.L.DecisionLog.moment in
    let p = c.args.self.now in
    refused_goes see (Steps.Crash (KnownParts.Line c.args.thread c.args.rm)) p c.refused.result Refusals.Limit tt c.refused.ensures
    (λ tr stands. crash_line_limit see tr p c.args.thread c.args.rm (sym c.has.ensures.value ∙ c.if-not-has.true) stands)

pub returns-then-not-is_up : goal.returns-then-not-is_up
returns-then-not-is_up g c =
    let see = sees g.R.ResourceManager.look g.L.DecisionLog.moment in
    let p = c.args.self.now in
    refused_goes see (Steps.Crash (KnownParts.Line c.args.thread c.args.rm)) p c.refused-then-not-is_up.result Refusals.ManagerDown tt
    c.refused-then-not-is_up.ensures
    (λ tr stands. crash_line_down see tr p c.args.thread c.args.rm (sym c.has.ensures.value ∙ c.if-not-has.false)
    (sym c.is_up.ensures ∙ c.if-not-is_up.true) stands)

pub returns-then-not-index : goal.returns-then-not-index
returns-then-not-index g c =
    let see = sees g.R.ResourceManager.look g.L.DecisionLog.moment in
    let p = c.args.self.now in
    refused_goes see (Steps.Crash (KnownParts.Line c.args.thread c.args.rm)) p c.refused-then-not-index.result Refusals.RmDown tt
    c.refused-then-not-index.ensures
    (λ tr stands. crash_line_rm_down see tr p c.args.thread c.args.rm c.index.result.now (sym c.has.ensures.value ∙ c.if-not-has.false)
    (sym c.is_up.ensures ∙ c.if-not-is_up.false)
    (site_read see tr p c.args.thread c.args.rm c.index.result.now stands
    (sym c.has.ensures.value ∙ c.if-not-has.false) c.index.ensures) c.if-not-index.true stands)

pub returns : goal.returns
returns g c tr stands few =
    let see = sees g.R.ResourceManager.look g.L.DecisionLog.moment in
    let p = c.args.self.now in
    let there = sym c.has.ensures.value ∙ c.if-not-has.false in
    let at = site_read see tr p c.args.thread c.args.rm c.index_mut.result.now stands there c.index_mut.ensures.value in
    let up =
    same_up p.sites.items c.args.rm at (site_read see tr p c.args.thread c.args.rm c.index.result.now stands there c.index.ensures) c.if-not-index.false in
    crash_line_leads see p c.args.thread c.args.rm c.index_mut.result.now c.break_line.new.self c.renew.new.self c.crash.new.self c.new.result c.new.ensures
    there (sym c.is_up.ensures ∙ c.if-not-is_up.false) up c.renew.ensures c.break_line.ensures
    c.crash.ensures.book (λ tr. log_kept see.moment (Crashed (KnownParts.Line c.args.thread c.args.rm)) p.manager c.crash.new.self (λ n. refl)
    c.crash.ensures.log c.crash.ensures.tied) tr stands at
