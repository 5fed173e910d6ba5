use Rattle.std.proofs.Common.{[], Option, subst, sym}
use Rattle.xa_base.specs.declared.code.Code.{Code}
use Rattle.xa_conduct.proofs.BackingLemmas.{told_at}
use Rattle.xa_conduct.specs.Backing.{IsToldSo, was_asked}
use Rattle.xa_conduct.proofs.part.Part.report.Goals as goal

pub returns-in_ok-answer-in-Some-clause-told : goal.returns-in_ok-answer-in-Some-clause-told
returns-in_ok-answer-in-Some-clause-told c =
    let plan = c.answer.new.self.requests.items in
    let IsTold : Option Code → Type 0 = IsToldSo (was_asked [] plan) c.args.branch c.args.self.now.place in
    subst IsTold (sym c.in-Some.is)
    (told_at plan c.args.branch c.kind-kind.result c.args.self.now.place c.in-Some.code c.kind-kind.ensures.kind c.in_ok-answer-in-Some.ensures.told)
