use Rattle.std.proofs.Common.{◌∙◌, ap, sym}
use Rattle.xa_log.specs.declared.fail_log.FailLog.{FailLog}
use Rattle.xa_log.proofs.PlannedCalls.{planned_as, planned_before}
use Rattle.xa_log.proofs.fail_log.FailLogDecisionLog.commit_all.Goals as goal
use Rattle.xa_log.proofs.fail_log.FailLogDecisionLog.commit_all.Goals.{in-FailsBefore, in_default}

pub returns-clause-cause : goal.returns-clause-cause
returns-clause-cause c = elim c.match-turn.branch [
  | in-FailsBefore w ↦ record {
    turn =
        planned_before _ _ _ c.args.self.now.log c.match-turn.self.log c.counted.result (sym c.turn.ensures.turn ∙ w.in-FailsBefore.is)
        (c.counted.ensures.same ∙ w.answers-is) (ap (λ (s : FailLog). s.log) (w.self-is ∙ c.turn.ensures.calls));
    counted = ap (λ (s : FailLog). s.calls) (w.self-is ∙ c.turn.ensures.calls);
    plan = ap (λ (s : FailLog). s.plan) (w.self-is ∙ c.turn.ensures.calls);
  }
  | in_default w ↦ record {
    turn =
        planned_as _ _ _ c.args.self.now.log c.turn.new.self.log c.match-turn.self.log w.commit_all.new.self w.commit_all.result c.counted.result
        (ap (λ (s : FailLog). s.log) c.turn.ensures.calls)
        (ap (λ (s : FailLog). s.log) w.self-is)
        (λ h. w.in_default.not-FailsBefore (c.turn.ensures.turn ∙ h))
        w.commit_all.ensures.cause
        (λ h. c.counted.ensures.same ∙ w.answers-is ∙ w.answer_at-answers.ensures.runs (c.turn.ensures.turn ∙ h))
        (λ h. c.counted.ensures.same ∙ w.answers-is ∙ w.answer_at-answers.ensures.fails (c.turn.ensures.turn ∙ h));
    counted = ap (λ (s : FailLog). s.calls) w.self-is ∙ ap (λ (s : FailLog). s.calls) c.turn.ensures.calls;
    plan = ap (λ (s : FailLog). s.plan) w.self-is ∙ ap (λ (s : FailLog). s.plan) c.turn.ensures.calls;
  }
]
