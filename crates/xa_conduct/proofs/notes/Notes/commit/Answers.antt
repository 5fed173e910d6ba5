use Rattle.std.proofs.Common.{◌∙◌, sym, arith, refl}
use Rattle.xa_conduct.proofs.BackingLemmas.{rest_moved}
use Rattle.xa_conduct.proofs.NotStuckLemmas.{reply_refused, reply_taken}
use Rattle.xa_conduct.proofs.ProgressLemmas.{all_step_one}
use Rattle.xa_conduct.proofs.RestLemmas.{first_one, moves_one}
use Rattle.xa_conduct.specs.NotStuck.{may_commit}
use Rattle.xa_conduct.proofs.notes.Notes.commit.Goals as goal

pub returns-clause-rests : goal.returns-clause-rests
returns-clause-rests c = λ past rest.
    rest_moved past c.args.plan.now.requests.items c.finish.new.plan.requests.items c.args.self.now.transactions.items c.args.thread
    c.in-Some.transaction.now c.finish.new.self (omega (arith, c.in-Some.ensures.variant.0 refl)) c.in-Some.ensures.value
    c.in_ok-finish-in-Some.ensures.more c.in_ok-finish-in-Some.ensures.rests rest

pub returns-clause-steps : goal.returns-clause-steps
returns-clause-steps c =
    all_step_one c.args.self.now.transactions.items c.args.thread c.in-Some.transaction.now c.finish.new.self
    (omega (arith, c.in-Some.ensures.variant.0 refl)) c.in-Some.ensures.value
    (c.in_ok-finish-in-Some.ensures.steps (c.may_commit.ensures.stands c.if-may_commit.true) (c.may_commit.ensures.works c.if-may_commit.true))

pub returns-clause-taken : goal.returns-clause-taken
returns-clause-taken c =
    reply_taken c.args.self.now.transactions.items c.args.thread c.in-Some.transaction.now may_commit
    (omega (arith, c.in-Some.ensures.variant.0 refl)) c.in-Some.ensures.value (sym c.may_commit.ensures.exact ∙ c.if-may_commit.true)

pub returns-in_default-clause-taken : goal.returns-in_default-clause-taken
returns-in_default-clause-taken c =
    reply_refused c.args.self.now.transactions.items c.args.thread c.in-Some.transaction.now may_commit
    (omega (arith, c.in-Some.ensures.variant.0 refl)) c.in-Some.ensures.value (sym c.may_commit.ensures.exact ∙ c.if-may_commit.false)

pub returns-clause-first : goal.returns-clause-first
returns-clause-first c =
    first_one c.args.self.now.transactions.items c.args.thread c.in-Some.transaction.now (omega (arith, c.in-Some.ensures.variant.0 refl))
    c.in-Some.ensures.value (c.may_commit.ensures.first c.if-may_commit.true)

pub returns-clause-moves : goal.returns-clause-moves
returns-clause-moves c =
    moves_one c.args.self.now.transactions.items c.args.thread c.finish.new.self (omega (arith, c.in-Some.ensures.variant.0 refl))
    c.in_ok-finish-in-Some.ensures.moved
