use Rattle.std.proofs.Common.{◌∙◌, ◌++◌, ap, sym}
use Rattle.std.specs.Prelude.{string_bytes}
use Rattle.xa_conduct.proofs.ToldLemmas.{adds_both, told_calls, told_outcome, told_standing}
use Rattle.xa_conduct.specs.Texts.{mixed_text, owed_branches_text, standing_with_reason}
use Rattle.xa_conduct.proofs.writing.add_told.Goals as goal

pub returns-then-is_asked : goal.returns-then-is_asked
returns-then-is_asked c =
    c.in_ok-add_calls.ensures
    ∙ ap (λ z. string_bytes c.args.text.now ++ z) (sym (told_calls c.args.transaction.now (sym c.is_asked.ensures ∙ c.if-is_asked.true)))

pub returns-in_ok-add_mixed : goal.returns-in_ok-add_mixed
returns-in_ok-add_mixed c =
    let t = c.args.transaction.now in
    let begun = string_bytes c.args.text.now in
    adds_both begun (string_bytes c.add_owed.new.text) (string_bytes c.add_mixed.new.text) (standing_with_reason t.standing ++ owed_branches_text t) (mixed_text t)
    (adds_both begun (string_bytes c.add_standing.new.text) (string_bytes c.add_owed.new.text) (standing_with_reason t.standing) (owed_branches_text t)
    c.in_ok-add_standing.ensures c.in_ok-add_owed.ensures)
    c.in_ok-add_mixed.ensures
    ∙ ap (λ z. begun ++ z) (sym (told_outcome t (sym c.is_asked.ensures ∙ c.if-is_asked.false) (sym c.has_outcome.ensures ∙ c.if-has_outcome.true)))

pub returns-else-has_outcome : goal.returns-else-has_outcome
returns-else-has_outcome c =
    c.in_ok-add_standing.ensures
    ∙ ap (λ z. string_bytes c.args.text.now ++ z)
    (sym (told_standing c.args.transaction.now (sym c.is_asked.ensures ∙ c.if-is_asked.false) (sym c.has_outcome.ensures ∙ c.if-has_outcome.false)))
