use Rattle.std.proofs.Common.{rules, ◌<◌, subst, sym}
use Rattle.xa_conduct.proofs.BackingLemmas.{heard_backed, step_closer}
use Rattle.xa_conduct.specs.Places.{steps_at}
use Rattle.xa_conduct.specs.declared.meaning.Step.{Step}
use Rattle.xa_conduct.proofs.part.Part.hear.Goals as goal

pub returns-clause-closer : goal.returns-clause-closer
returns-clause-closer c = λ asked.
    subst (λ (s : Step). steps_at c.args.self.now.place < steps_at s.place) (sym c.step_of-step.ensures)
    (step_closer c.args.self.now.place c.args.report asked)

pub returns-clause-backed : goal.returns-clause-backed
returns-clause-backed c = λ past before.
    heard_backed past c.tell.new.plan.requests.items c.args.branch c.args.self.now.place c.args.report c.step_of-step.result c.step_of-step.ensures
    (search rules) c.in_ok-tell.ensures.told c.in_ok-tell.ensures.forgets
