use Rattle.std.proofs.Common.{◌<◌, arith, length, refl}
use Rattle.xa_conduct.proofs.BackingLemmas.{rest_one}
use Rattle.xa_conduct.proofs.ProgressLemmas.{branches_set, works_first}
use Rattle.xa_conduct.proofs.transaction.Transaction.finish.Goals as goal

pub returns-clause-rests : goal.returns-clause-rests
returns-clause-rests c = λ past rests.
    let s = c.args.self.now in
    let within : 0 < length s.parts.items = omega (arith, c.in-Some.ensures.variant.0 refl) in
    rest_one past c.args.plan.now.requests.items c.commit_at_once.new.plan.requests.items s.gtrid s.thread s.standing s.parts.items 0
    c.in-Some.part.now c.commit_at_once.new.self within c.in-Some.ensures.value c.in_ok-commit_at_once.ensures.same
    c.in_ok-commit_at_once.ensures.more c.in_ok-commit_at_once.ensures.backed rests

pub returns-clause-steps : goal.returns-clause-steps
returns-clause-steps c = λ stands working.
    let s = c.args.self.now in
    let part = c.in-Some.part.now in
    let within : 0 < length s.parts.items = omega (arith, c.in-Some.ensures.variant.0 refl) in
    let moved = branches_set s.parts.items _ 0 part c.commit_at_once.new.self within c.in-Some.ensures.value refl in
    let closer = c.in_ok-commit_at_once.ensures.started (works_first s.parts.items part within c.in-Some.ensures.value working) in
    record { same = refl; made = omega (arith, moved, closer) }
