use Rattle.std.proofs.Common.{◌∙◌, arith, inl, inr, refl, rules, sym}
use Rattle.xa_conduct.proofs.ProgressLemmas.{heard_all, heard_none, heard_one, heard_out}
use Rattle.xa_conduct.proofs.transaction.Transaction.hear_parts.Goals as goal

pub loop-at-init : goal.loop-at-init
loop-at-init c = record { moved = refl; steps = inr (refl, refl, search rules); more = λ p among. among; rests = λ past rests. rests }

pub loop-at-preserved-then-not-is_asked_at : goal.loop-at-preserved-then-not-is_asked_at
loop-at-preserved-then-not-is_asked_at c = record {
  moved = c.loop-at.invariant.moved;
  steps =
      heard_none c.loop-at.at c.args.self.now c.loop-at.self c.args.reports.now c.loop-at.reports.rest.now c.loop-at.invariant.steps
      (sym c.is_asked_at.ensures ∙ c.if-not-is_asked_at.true);
  more = c.loop-at.invariant.more;
  rests = c.loop-at.invariant.rests;
}

pub loop-at-preserved : goal.loop-at-preserved
loop-at-preserved c = record {
  moved = c.in_ok-objection.ensures.moved ∙ c.loop-at.invariant.moved;
  steps = inl (heard_one c.loop-at.at c.args.self.now c.loop-at.self c.hear_at.new.self c.args.reports.now c.loop-at.reports.rest.now c.loop-at.invariant.steps (sym c.is_asked_at.ensures ∙ c.if-not-is_asked_at.false) c.in_ok-objection.ensures.steps);
  more = λ p among. c.in_ok-objection.ensures.more p (c.loop-at.invariant.more p among);
  rests = λ past rests. c.in_ok-objection.ensures.rests past (c.loop-at.invariant.rests past rests);
}

pub returns-after-loop-at-clause-steps : goal.returns-after-loop-at-clause-steps
returns-after-loop-at-clause-steps c = λ calls some.
    heard_all c.loop-at.at c.args.self.now c.loop-at.self c.args.reports.now c.loop-at.reports.rest.now (omega (arith, c.loop-at-test.false)) calls
    c.loop-at.invariant.steps

pub returns-in_default-clause-steps : goal.returns-in_default-clause-steps
returns-in_default-clause-steps c = λ calls some.
    heard_out c.loop-at.at c.args.self.now c.loop-at.self c.args.reports.now c.loop-at.reports.rest.now some c.in_default.ensures.steps.0 c.loop-at.invariant.steps
