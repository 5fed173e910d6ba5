use Rattle.std.proofs.Common.{sym, ◌∙◌}
use Rattle.xa_base.specs.declared.refusal.Refusal.TheVariants as Refusals
use Rattle.xa_base.specs.declared.step.Step.TheVariants as Steps
use Rattle.xa_system.specs.Parts.{sees}
use Rattle.xa_system.proofs.Histories.Standing.{site_read}
use Rattle.xa_system.proofs.Histories.RefusedSteps.{refused_goes}
use Rattle.xa_system.proofs.Steps.Take.{take_down, take_full, take_leads, take_limit, take_may}
use Rattle.xa_system.proofs.parts.Parts.take.Goals as goal

pub returns-then-not-has : goal.returns-then-not-has
returns-then-not-has g c =
    let see = sees g.R.ResourceManager.look g.L.DecisionLog.moment in
    let p = c.args.self.now in
    refused_goes see (Steps.Take c.args.thread c.args.rm) p c.refused.result Refusals.Limit tt c.refused.ensures
    (λ tr. take_limit see tr p c.args.thread c.args.rm (sym c.has.ensures.value ∙ c.if-not-has.true))

pub returns-then-not-index : goal.returns-then-not-index
returns-then-not-index g c =
    let see = sees g.R.ResourceManager.look g.L.DecisionLog.moment in
    let p = c.args.self.now in
    let there = sym c.has.ensures.value ∙ c.if-not-has.false in
    refused_goes see (Steps.Take c.args.thread c.args.rm) p c.refused-then-not-index.result Refusals.RmDown tt c.refused-then-not-index.ensures
    (λ tr stands. take_down see tr p c.args.thread c.args.rm c.index.result.now there
    (site_read see tr p c.args.thread c.args.rm c.index.result.now stands there c.index.ensures) c.if-not-index.true stands)

pub returns-then-free_answers-eq0 : goal.returns-then-free_answers-eq0
returns-then-free_answers-eq0 g c =
    let see = sees g.R.ResourceManager.look g.L.DecisionLog.moment in
    let p = c.args.self.now in
    let there = sym c.has.ensures.value ∙ c.if-not-has.false in
    refused_goes see (Steps.Take c.args.thread c.args.rm) p c.refused-then-free_answers-eq0.result Refusals.Full tt c.refused-then-free_answers-eq0.ensures
    (λ tr stands. take_full see tr p c.args.thread c.args.rm c.index.result.now c.free_answers.result there
    (site_read see tr p c.args.thread c.args.rm c.index.result.now stands there c.index.ensures) c.if-not-index.false
    (rw c.line.ensures.value at c.free_answers.ensures) c.if-free_answers-eq0.true stands)

pub returns : goal.returns
returns g c tr stands few =
    let see = sees g.R.ResourceManager.look g.L.DecisionLog.moment in
    let p = c.args.self.now in
    let there = sym c.has.ensures.value ∙ c.if-not-has.false in
    let at = site_read see tr p c.args.thread c.args.rm c.index_mut.result.now stands there c.index_mut.ensures.value in
    let seen = site_read see tr p c.args.thread c.args.rm c.index.result.now stands there c.index.ensures in
    take_leads see p c.args.thread c.args.rm c.index_mut.result.now c.take.new.rm c.take.new.line c.take.result at
    (rw c.line_mut-line.ensures.value at c.take.ensures) tr stands few
    (take_may see tr p c.args.thread c.args.rm c.index.result.now c.free_answers.result there seen c.if-not-index.false
    (rw c.line.ensures.value at c.free_answers.ensures) c.if-free_answers-eq0.false stands)
