use Rattle.std.proofs.Common.{ap, arith}
use Rattle.xa_conduct.proofs.BackingLemmas.{rest_as, rest_joined, rest_kept}
use Rattle.xa_conduct.proofs.ProgressLemmas.{branches_pushed}
use Rattle.xa_conduct.specs.Backing.{was_asked}
use Rattle.xa_conduct.specs.Progress.{branch_steps, steps_to}
use Rattle.xa_conduct.proofs.transaction.Transaction.add.Goals as goal

pub returns-clause-rests : goal.returns-clause-rests
returns-clause-rests c = λ past rests.
    let s = c.args.self.now in
    let o = c.open.new.self in
    let same = c.in_ok-open.ensures in
    let plan = c.start.new.self.requests.items in
    rest_joined (was_asked past plan) o.gtrid o.thread o.standing o.parts.items c.push.new.self.items c.new.result c.in_ok-push.ensures.items
    c.new.ensures.place
    (rest_as (was_asked past plan) s.gtrid o.gtrid s.thread o.thread s.standing o.standing s.parts.items o.parts.items same.gtrid same.thread
    same.standing (ap (λ v. v.items) same.parts)
    (rest_kept past c.args.plan.now.requests.items plan s.gtrid s.thread s.standing s.parts.items
    (λ p among. c.in_ok-start.ensures p (same.more p among)) rests))

pub returns-clause-steps : goal.returns-clause-steps
returns-clause-steps c =
    let o = c.open.new.self in
    let same = c.in_ok-open.ensures in
    let stands = ap steps_to same.standing in
    let before = ap (λ v. branch_steps v.items) same.parts in
    let pushed = branches_pushed o.parts.items c.push.new.self.items c.new.result c.in_ok-push.ensures.items c.new.ensures.place in
    record { same = same.gtrid; made = omega (arith, stands, before, pushed) }
