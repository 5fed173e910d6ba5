use Rattle.std.proofs.Common.{◌∙◌, List, ap, sym}
use Rattle.std.proofs.lemmas.Bool.{true≢false}
use Rattle.xa_conduct.proofs.NotStuckLemmas.{answers_some}
use Rattle.xa_conduct.specs.NotStuck.{are_answers, calls_of}
use Rattle.xa_conduct.specs.declared.part.Part.{Part}
use Rattle.xa_conduct.proofs.transaction.Transaction.takes.Goals as goal
use Rattle.xa_conduct.proofs.transaction.Transaction.takes.Goals.{else-is_asked, then-is_asked}

pub returns-then-are_answers-clause-some : goal.returns-then-are_answers-clause-some
returns-then-are_answers-clause-some c = λ moved.
    elim c.if-is_asked.branch [
      | then-is_asked w ↦
          answers_some c.args.self.now.parts.items c.args.reports.now (sym c.is_asked.ensures ∙ w.if-is_asked.true)
          (ap (λ (ps : List Part). are_answers (calls_of ps) c.args.reports.now) (sym w.as_slice.ensures.value) ∙ sym w.are_answers.ensures
          ∙ sym w.value-is
          ∙ c.if-are_answers.true)
      | else-is_asked w ↦ absurd (true≢false (sym c.if-are_answers.true ∙ w.value-is ∙ w.if-is_asked.false))
    ]
