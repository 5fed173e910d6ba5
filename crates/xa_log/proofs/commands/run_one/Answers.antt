use Rattle.std.proofs.Common.{sym, ap, subst, refl}
use Rattle.xa_log.specs.Commands.{AnswersCommand}
use Rattle.xa_log.specs.declared.commands.Told.TheVariants as told
use Rattle.xa_log.proofs.Parts.{some_and, both3}
use Rattle.xa_log.proofs.commands.run_one.Goals as goal

pub returns-in_ok-commit-in-Commit-clause-told : goal.returns-in_ok-commit-in-Commit-clause-told
returns-in_ok-commit-in-Commit-clause-told g c order honest =
    some_and _ _ _ (λ content is. subst (λ call. AnswersCommand content call (told.Logged c.in_ok-commit-in-Commit.field-0)) (sym c.in-Commit.is)
    (ap told.Logged is))
    (c.in_ok-commit-in-Commit.ensures.answer order honest)

pub returns-in_ok-contains-in-Contains-clause-told : goal.returns-in_ok-contains-in-Contains-clause-told
returns-in_ok-contains-in-Contains-clause-told g c order honest =
    some_and _ _ _ (λ content is. subst (λ call. AnswersCommand content call (told.Found c.in_ok-contains-in-Contains.field-0)) (sym c.in-Contains.is)
    (ap told.Found is)) (c.in_ok-contains-in-Contains.ensures.answer order honest)

pub returns-in_ok-done-in-Done-clause-told : goal.returns-in_ok-done-in-Done-clause-told
returns-in_ok-done-in-Done-clause-told g c order honest =
    some_and _ _ _ (λ content is. subst (λ call. AnswersCommand content call (told.Found c.in_ok-done-in-Done.field-0)) (sym c.in-Done.is) (ap told.Found is))
    (c.in_ok-done-in-Done.ensures.answer order honest)

pub returns-in_ok-heuristic_of-in-HeuristicOf-clause-told : goal.returns-in_ok-heuristic_of-in-HeuristicOf-clause-told
returns-in_ok-heuristic_of-in-HeuristicOf-clause-told g c order honest =
    some_and _ _ _ (λ content is. subst (λ call. AnswersCommand content call (told.Ended c.in_ok-heuristic_of-in-HeuristicOf.field-0)) (sym c.in-HeuristicOf.is)
    (ap told.Ended is)) (c.in_ok-heuristic_of-in-HeuristicOf.ensures.answer order honest)

pub returns-in_ok-bump-in-Bump-clause-told : goal.returns-in_ok-bump-in-Bump-clause-told
returns-in_ok-bump-in-Bump-clause-told g c order honest =
    some_and _ _ _ (λ content is. subst (λ call. AnswersCommand content call (told.Incarnation c.in_ok-bump-in-Bump.field-0)) (sym c.in-Bump.is)
    (ap told.Incarnation is)) (c.in_ok-bump-in-Bump.ensures.answer order honest)

pub returns-in_ok-participants-in-Participants-clause-told : goal.returns-in_ok-participants-in-Participants-clause-told
returns-in_ok-participants-in-Participants-clause-told g c order honest =
    some_and _ _ _ (λ content is. subst (λ call. AnswersCommand content call (told.Waiting c.in_ok-participants-in-Participants.field-0))
    (sym c.in-Participants.is) is)
    (c.in_ok-participants-in-Participants.ensures.answer order honest)

pub returns-in_ok-note_heuristic-in-NoteHeuristic-clause-told : goal.returns-in_ok-note_heuristic-in-NoteHeuristic-clause-told
returns-in_ok-note_heuristic-in-NoteHeuristic-clause-told g c order honest =
    some_and _ _ _ (λ content is. subst (λ call. AnswersCommand content call told.Noted) (sym c.in-NoteHeuristic.is) refl)
    (c.in_ok-note_heuristic-in-NoteHeuristic.ensures.changes.ok order honest)

pub returns-in_ok-rows-in-Rows-clause-told : goal.returns-in_ok-rows-in-Rows-clause-told
returns-in_ok-rows-in-Rows-clause-told g c order honest =
    let all =
    both3 _ _ _ _ (c.in_ok-rows-in-Rows.ensures.decisions order honest) (c.in_ok-rows-in-Rows.ensures.participants order honest)
    (c.in_ok-rows-in-Rows.ensures.heuristics order honest) in
    some_and _ _ _ (λ content is. subst (λ call. AnswersCommand content call (told.Rows c.in_ok-rows-in-Rows.field-0)) (sym c.in-Rows.is) is) all
