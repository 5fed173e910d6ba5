use Rattle.std.proofs.Common.{◌∙◌, sym, arith, refl}
use Rattle.xa_conduct.proofs.BackingLemmas.{rest_moved}
use Rattle.xa_conduct.proofs.NotStuckLemmas.{reply_refused, reply_taken}
use Rattle.xa_conduct.proofs.ProgressLemmas.{all_step_one}
use Rattle.xa_conduct.proofs.RestLemmas.{first_one, moves_one}
use Rattle.xa_conduct.specs.NotStuck.{may_tell}
use Rattle.xa_conduct.proofs.notes.Notes.tell.Goals as goal

pub returns-clause-rests : goal.returns-clause-rests
returns-clause-rests c = λ past rest.
    rest_moved past c.args.plan.now.requests.items c.hear.new.plan.requests.items c.args.self.now.transactions.items c.args.thread
    c.in-Some.transaction.now c.hear.new.self (omega (arith, c.in-Some.ensures.variant.0 refl)) c.in-Some.ensures.value c.in_ok-hear.ensures.more
    c.in_ok-hear.ensures.rests rest

pub returns-clause-steps : goal.returns-clause-steps
returns-clause-steps c =
    all_step_one c.args.self.now.transactions.items c.args.thread c.in-Some.transaction.now c.hear.new.self
    (omega (arith, c.in-Some.ensures.variant.0 refl)) c.in-Some.ensures.value
    (c.in_ok-hear.ensures.steps (c.takes.ensures.calls c.if-not-takes.false) (c.takes.ensures.some c.if-not-takes.false))

pub returns-clause-taken : goal.returns-clause-taken
returns-clause-taken c =
    reply_taken c.args.self.now.transactions.items c.args.thread c.in-Some.transaction.now (may_tell c.args.reports.now)
    (omega (arith, c.in-Some.ensures.variant.0 refl)) c.in-Some.ensures.value (sym c.takes.ensures.exact ∙ c.if-not-takes.false)

pub returns-then-not-takes-clause-taken : goal.returns-then-not-takes-clause-taken
returns-then-not-takes-clause-taken c =
    reply_refused c.args.self.now.transactions.items c.args.thread c.in-Some.transaction.now (may_tell c.args.reports.now)
    (omega (arith, c.in-Some.ensures.variant.0 refl)) c.in-Some.ensures.value (sym c.takes.ensures.exact ∙ c.if-not-takes.true)

pub returns-clause-first : goal.returns-clause-first
returns-clause-first c =
    first_one c.args.self.now.transactions.items c.args.thread c.in-Some.transaction.now (omega (arith, c.in-Some.ensures.variant.0 refl))
    c.in-Some.ensures.value (c.takes.ensures.first c.if-not-takes.false)

pub returns-clause-moves : goal.returns-clause-moves
returns-clause-moves c =
    moves_one c.args.self.now.transactions.items c.args.thread c.hear.new.self (omega (arith, c.in-Some.ensures.variant.0 refl))
    c.in_ok-hear.ensures.moved
