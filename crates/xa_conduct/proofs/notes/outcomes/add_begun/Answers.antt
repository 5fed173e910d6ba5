use Rattle.std.proofs.Common.{◌≡◌, ◌∙◌, Option, ap, inr, subst, sym, true}
use Rattle.std.specs.Prelude.{is_some}
use Rattle.xa_base.specs.declared.branch.Gtrid.{Gtrid}
use Rattle.xa_conduct.specs.Over.{is_all_answered}
use Rattle.xa_conduct.specs.Told.{GivesWay}
use Rattle.xa_conduct.proofs.notes.outcomes.add_begun.Goals as goal

pub returns-clause-rests : goal.returns-clause-rests
returns-clause-rests c = λ asked rests. c.begin.ensures.rests asked

pub returns-clause-passes : goal.returns-clause-passes
returns-clause-passes c =
    let over : is_all_answered c.args.transaction.now ≡ true = sym c.requires ∙ ap (λ (next : Option Gtrid). is_some next) c.in-Some.is in
    inr (over, (c.begin.ensures.begun.1, c.begin.ensures.begun.2))

pub returns-clause-gives : goal.returns-clause-gives
returns-clause-gives c =
    let over : is_all_answered c.args.transaction.now ≡ true = sym c.requires ∙ ap (λ (next : Option Gtrid). is_some next) c.in-Some.is in
    subst (λ (next : Option Gtrid). GivesWay c.args.transaction.now next c.begin.new.self) (sym c.in-Some.is) (over, c.begin.ensures.begun)
