use Rattle.std.proofs.Common.{arith, refl}
use Rattle.xa_conduct.proofs.BackingLemmas.{outcome_kept, rest_each}
use Rattle.xa_conduct.proofs.ProgressLemmas.{branches_lent}
use Rattle.xa_conduct.proofs.transaction.Transaction.prepare.Goals as goal

pub returns-clause-rests : goal.returns-clause-rests
returns-clause-rests c = λ past rests.
    let s = c.args.self.now in
    let each = c.in_ok-prepare_each.ensures in
    let old = c.args.plan.now.requests.items in
    let new = c.prepare_each.new.plan.requests.items in
    rest_each past old new s.gtrid s.thread s.standing s.parts.items c.as_mut_slice.result.now c.prepare_each.new.parts s.parts.len each.more
    c.as_mut_slice.ensures.value each.backed (outcome_kept past old new s.gtrid s.thread s.standing each.more rests.outcome) rests.parts

pub returns-clause-steps : goal.returns-clause-steps
returns-clause-steps c =
    let s = c.args.self.now in
    let more =
    branches_lent s.parts.items c.as_mut_slice.result.now c.prepare_each.new.parts s.parts.len c.as_mut_slice.ensures.value
    (omega (arith, c.as_mut_slice.ensures.len)) c.prepare_each.auto.parts c.in_ok-prepare_each.ensures.steps in
    record { same = refl; made = omega (arith, more) }
