use Rattle.std.proofs.Common.{◌∙◌, sym, ◌-◌, ℕ, ap, arith, refl, subst}
use Rattle.xa_conduct.proofs.BackingLemmas.{rest_moved}
use Rattle.xa_conduct.proofs.NotStuckLemmas.{reply_refused, reply_taken}
use Rattle.xa_conduct.proofs.ProgressLemmas.{all_step_one}
use Rattle.xa_conduct.proofs.RestLemmas.{first_one, moves_one}
use Rattle.xa_conduct.specs.Progress.{Steps, steps_to}
use Rattle.xa_conduct.specs.declared.transaction.Standing.{Standing}
use Rattle.xa_conduct.specs.NotStuck.{may_roll_back}
use Rattle.xa_conduct.proofs.notes.Notes.roll_back.Goals as goal

pub returns-clause-rests : goal.returns-clause-rests
returns-clause-rests c = λ past rest.
    rest_moved past c.args.plan.now.requests.items c.roll_back.new.plan.requests.items c.args.self.now.transactions.items c.args.thread
    c.in-Some.transaction.now c.roll_back.new.self (omega (arith, c.in-Some.ensures.variant.0 refl)) c.in-Some.ensures.value
    c.in_ok-roll_back-in-Some.ensures.more c.in_ok-roll_back-in-Some.ensures.rests rest

pub returns-clause-steps : goal.returns-clause-steps
returns-clause-steps c =
    all_step_one c.args.self.now.transactions.items c.args.thread c.in-Some.transaction.now c.roll_back.new.self
    (omega (arith, c.in-Some.ensures.variant.0 refl)) c.in-Some.ensures.value
    (subst (λ (n : ℕ). Steps n c.in-Some.transaction.now c.roll_back.new.self)
    (ap (λ (s : Standing). 1 - steps_to s) (c.may_roll_back.ensures.stands c.if-may_roll_back.true)) c.in_ok-roll_back-in-Some.ensures.steps)

pub returns-clause-taken : goal.returns-clause-taken
returns-clause-taken c =
    reply_taken c.args.self.now.transactions.items c.args.thread c.in-Some.transaction.now may_roll_back
    (omega (arith, c.in-Some.ensures.variant.0 refl)) c.in-Some.ensures.value (sym c.may_roll_back.ensures.exact ∙ c.if-may_roll_back.true)

pub returns-in_default-clause-taken : goal.returns-in_default-clause-taken
returns-in_default-clause-taken c =
    reply_refused c.args.self.now.transactions.items c.args.thread c.in-Some.transaction.now may_roll_back
    (omega (arith, c.in-Some.ensures.variant.0 refl)) c.in-Some.ensures.value (sym c.may_roll_back.ensures.exact ∙ c.if-may_roll_back.false)

pub returns-clause-first : goal.returns-clause-first
returns-clause-first c =
    first_one c.args.self.now.transactions.items c.args.thread c.in-Some.transaction.now (omega (arith, c.in-Some.ensures.variant.0 refl))
    c.in-Some.ensures.value (c.may_roll_back.ensures.first c.if-may_roll_back.true)

pub returns-clause-moves : goal.returns-clause-moves
returns-clause-moves c =
    moves_one c.args.self.now.transactions.items c.args.thread c.roll_back.new.self (omega (arith, c.in-Some.ensures.variant.0 refl))
    c.in_ok-roll_back-in-Some.ensures.moved
