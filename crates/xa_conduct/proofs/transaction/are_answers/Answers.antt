use Rattle.std.proofs.Common.{◌+◌, ◌∙◌, ◌&&◌, Bool, ap, arith, drop, sym}
use Rattle.xa_conduct.proofs.NotStuckLemmas.{answers_end, answers_next, answers_out, answers_skip}
use Rattle.xa_conduct.specs.NotStuck.{are_answers, calls_of}
use Rattle.xa_conduct.proofs.transaction.are_answers.Goals as goal

pub loop-part-preserved-then-not-is_asked : goal.loop-part-preserved-then-not-is_asked
loop-part-preserved-then-not-is_asked c = record {
  within = c.loop-part.invariant.within;
  left =
      c.loop-part.invariant.left
      ∙ answers_skip c.args.parts.now _ c.loop-part.part-index _ (omega arith) (sym c.is_asked.ensures ∙ c.if-not-is_asked.true);
}

pub loop-part-preserved : goal.loop-part-preserved
loop-part-preserved c = record {
  within = omega arith;
  left =
      c.loop-part.invariant.left
      ∙ answers_next c.args.parts.now c.args.reports.now c.loop-part.part-index c.loop-part.at _ _ (omega arith) (omega arith)
      (sym c.is_asked.ensures ∙ c.if-not-is_asked.false)
      ∙ ap
      (λ (b : Bool). b && are_answers (calls_of (drop (c.loop-part.part-index + 1) c.args.parts.now)) (drop (c.loop-part.at + 1) c.args.reports.now))
      (sym c.takes.ensures.table ∙ c.if-not-takes.false);
}

pub returns-then-at-reports : goal.returns-then-at-reports
returns-then-at-reports c =
    sym (c.loop-part.invariant.left
    ∙ answers_out c.args.parts.now c.args.reports.now c.loop-part.part-index c.loop-part.at _ (omega arith)
    (sym c.is_asked.ensures ∙ c.if-not-is_asked.false) (omega arith))

pub returns-then-not-takes : goal.returns-then-not-takes
returns-then-not-takes c =
    sym (c.loop-part.invariant.left
    ∙ answers_next c.args.parts.now c.args.reports.now c.loop-part.part-index c.loop-part.at _ _ (omega arith) (omega arith)
    (sym c.is_asked.ensures ∙ c.if-not-is_asked.false)
    ∙ ap
    (λ (b : Bool). b && are_answers (calls_of (drop (c.loop-part.part-index + 1) c.args.parts.now)) (drop (c.loop-part.at + 1) c.args.reports.now))
    (sym c.takes.ensures.table ∙ c.if-not-takes.true))

pub returns : goal.returns
returns c =
    answers_end c.args.parts.now c.args.reports.now c.loop-part.part-index c.loop-part.at (omega (arith, c.loop-part-test.false)) c.loop-part.invariant.within
    ∙ sym c.loop-part.invariant.left
