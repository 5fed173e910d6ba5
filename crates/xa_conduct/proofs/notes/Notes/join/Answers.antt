use Rattle.std.proofs.Common.{◌≡◌, ℕ, ap, ◌∙◌, sym, length, arith, refl}
use Rattle.xa_conduct.proofs.BackingLemmas.{rest_moved}
use Rattle.xa_conduct.proofs.NotStuckLemmas.{reply_refused, reply_taken}
use Rattle.xa_conduct.proofs.ProgressLemmas.{all_step_one}
use Rattle.xa_conduct.proofs.RestLemmas.{first_one, moves_one}
use Rattle.xa_conduct.specs.NotStuck.{may_join}
use Rattle.xa_conduct.proofs.notes.Notes.join.Goals as goal

pub returns-clause-rests : goal.returns-clause-rests
returns-clause-rests c = λ past rest.
    rest_moved past c.args.plan.now.requests.items c.join.new.plan.requests.items c.args.self.now.transactions.items c.args.thread
    c.in-Some.transaction.now c.join.new.self (omega (arith, c.in-Some.ensures.variant.0 refl)) c.in-Some.ensures.value
    c.in_ok-join-in-Some.ensures.more c.in_ok-join-in-Some.ensures.rests rest

pub returns-clause-steps : goal.returns-clause-steps
returns-clause-steps c =
    all_step_one c.args.self.now.transactions.items c.args.thread c.in-Some.transaction.now c.join.new.self
    (omega (arith, c.in-Some.ensures.variant.0 refl)) c.in-Some.ensures.value
    (c.in_ok-join-in-Some.ensures.steps (c.may_join.ensures.some c.if-may_join.true) (c.may_join.ensures.new c.if-may_join.true))

pub returns-clause-taken : goal.returns-clause-taken
returns-clause-taken c =
    let count : length c.args.self.now.recoveries.items ≡ c.len-count.result = omega arith in
    let at_count = ap (λ (n : ℕ). may_join c.args.rms.now n c.in-Some.transaction.now) count in
    reply_taken c.args.self.now.transactions.items c.args.thread c.in-Some.transaction.now (may_join c.args.rms.now (length c.args.self.now.recoveries.items))
    (omega (arith, c.in-Some.ensures.variant.0 refl)) c.in-Some.ensures.value (at_count ∙ sym c.may_join.ensures.exact ∙ c.if-may_join.true)

pub returns-in_default-clause-taken : goal.returns-in_default-clause-taken
returns-in_default-clause-taken c =
    let count : length c.args.self.now.recoveries.items ≡ c.len-count.result = omega arith in
    let at_count = ap (λ (n : ℕ). may_join c.args.rms.now n c.in-Some.transaction.now) count in
    reply_refused c.args.self.now.transactions.items c.args.thread c.in-Some.transaction.now (may_join c.args.rms.now (length c.args.self.now.recoveries.items))
    (omega (arith, c.in-Some.ensures.variant.0 refl)) c.in-Some.ensures.value (at_count ∙ sym c.may_join.ensures.exact ∙ c.if-may_join.false)

pub returns-clause-first : goal.returns-clause-first
returns-clause-first c =
    first_one c.args.self.now.transactions.items c.args.thread c.in-Some.transaction.now (omega (arith, c.in-Some.ensures.variant.0 refl))
    c.in-Some.ensures.value (c.may_join.ensures.first c.if-may_join.true)

pub returns-clause-moves : goal.returns-clause-moves
returns-clause-moves c =
    moves_one c.args.self.now.transactions.items c.args.thread c.join.new.self (omega (arith, c.in-Some.ensures.variant.0 refl))
    c.in_ok-join-in-Some.ensures.moved
