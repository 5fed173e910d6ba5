use Rattle.std.proofs.Common.{◌<◌, ◌∙◌, ap, arith, length, refl}
use Rattle.xa_conduct.proofs.BackingLemmas.{rest_as, rest_heard}
use Rattle.xa_conduct.proofs.ProgressLemmas.{steps_heard}
use Rattle.xa_conduct.specs.Backing.{standing_once_heard, was_asked}
use Rattle.xa_conduct.proofs.transaction.Transaction.hear_at.Goals as goal

pub returns-clause-rests : goal.returns-clause-rests
returns-clause-rests c = λ past rests.
    let s = c.args.self.now in
    let n = c.note.new.self in
    let part = c.in-Some.part.now in
    let heard = c.in_ok-heard.ensures in
    let old = c.args.plan.now.requests.items in
    let new = c.hear.new.plan.requests.items in
    let within : c.args.at < length s.parts.items = omega (arith, c.in-Some.ensures.variant.0 refl) in
    rest_as (was_asked past new) s.gtrid n.gtrid s.thread n.thread (standing_once_heard s.standing c.in_ok-heard.heard part.rm) n.standing _ n.parts.items
    c.note.ensures.gtrid c.note.ensures.thread c.note.ensures.standing (ap (λ v. v.items) c.note.ensures.parts)
    (rest_heard past old new s.gtrid s.thread s.standing _ s.parts.items _ c.args.at part c.hear.new.self c.args.report c.in_ok-heard.heard within
    c.in-Some.ensures.value refl heard.same heard.more heard.backed heard.tells heard.heard refl rests)

pub returns-clause-steps : goal.returns-clause-steps
returns-clause-steps c =
    let s = c.args.self.now in
    let part = c.in-Some.part.now in
    let within : c.args.at < length s.parts.items = omega (arith, c.in-Some.ensures.variant.0 refl) in
    steps_heard s c.note.new.self c.args.at part c.hear.new.self c.args.report c.in_ok-heard.heard part.rm within c.in-Some.ensures.value
    (ap (λ v. v.items) c.note.ensures.parts) c.in_ok-heard.ensures.place c.note.ensures.gtrid c.note.ensures.standing
