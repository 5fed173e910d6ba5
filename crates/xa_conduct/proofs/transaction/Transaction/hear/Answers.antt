use Rattle.std.proofs.Common.{◌∙◌, arith}
use Rattle.xa_conduct.proofs.ProgressLemmas.{one_at_most}
use Rattle.xa_conduct.proofs.transaction.Transaction.hear.Goals as goal

pub returns-then-are_for-clause-rests : goal.returns-then-are_for-clause-rests
returns-then-are_for-clause-rests c = λ past rests. record { outcome = tt; parts = (c.in_ok-why.ensures.rests past rests).parts }

pub returns-in_ok-roll_back-in-Idle-clause-rests : goal.returns-in_ok-roll_back-in-Idle-clause-rests
returns-in_ok-roll_back-in-Idle-clause-rests c = λ past rests. c.in_ok-roll_back-in-Idle.ensures.rests past (c.in_ok-why.ensures.rests past rests)

pub returns-then-are_for-clause-steps : goal.returns-then-are_for-clause-steps
returns-then-are_for-clause-steps c = λ calls some.
    let heard = c.in_ok-why.ensures.steps calls some in
    record { same = heard.same; made = omega (arith, heard.made, one_at_most c.hear_parts.new.self.standing) }

pub returns-in_ok-roll_back-in-Idle-clause-steps : goal.returns-in_ok-roll_back-in-Idle-clause-steps
returns-in_ok-roll_back-in-Idle-clause-steps c = λ calls some.
    let heard = c.in_ok-why.ensures.steps calls some in
    let ends = c.in_ok-roll_back-in-Idle.ensures.steps in
    record { same = ends.same ∙ heard.same; made = omega (arith, heard.made, ends.made) }
