use Rattle.std.proofs.Common.{[], Some, arith, inl, refl}
use Rattle.std.proofs.lemmas.Bool.{or_left}
use Rattle.std.specs.List.{list_any}
use Rattle.xa_conduct.proofs.BackingLemmas.{asked_more, asked_now, parts_kept, rest_each, same_itself}
use Rattle.xa_conduct.proofs.ProgressLemmas.{branches_lent, one_at_most}
use Rattle.xa_conduct.specs.Decided.{is_rollback_of, is_same}
use Rattle.xa_conduct.specs.declared.transaction.Standing.TheVariants.{RolledBack}
use Rattle.xa_conduct.proofs.transaction.Transaction.roll_back.Goals as goal

pub undo_each-requires : goal.undo_each-requires
undo_each-requires c =
    let g = c.args.self.now.gtrid in
    c.in_ok-decide.ensures.rolls_back refl g (or_left (is_same g g) (list_any (is_same g) []) (same_itself g))

pub returns-clause-rests : goal.returns-clause-rests
returns-clause-rests c = λ past rests.
    let s = c.args.self.now in
    let g = s.gtrid in
    let each = c.in_ok-undo_each.ensures in
    let old = c.args.plan.now.requests.items in
    let decided = c.decide.new.self.requests.items in
    let new = c.undo_each.new.plan.requests.items in
    let is = c.in_ok-decide.ensures.rolls_back refl g (or_left (is_same g g) (list_any (is_same g) []) (same_itself g)) in
    rest_each past decided new g s.thread (RolledBack c.args.why) s.parts.items c.as_mut_slice.result.now c.undo_each.new.parts s.parts.len each.more
    c.as_mut_slice.ensures.value each.backed (inl (asked_now past new (is_rollback_of g) (each.more (is_rollback_of g) is)))
    (parts_kept past old decided g s.thread s.parts.items c.in_ok-decide.ensures.more rests.parts)

pub returns-clause-steps : goal.returns-clause-steps
returns-clause-steps c =
    let s = c.args.self.now in
    let more =
    branches_lent s.parts.items c.as_mut_slice.result.now c.undo_each.new.parts s.parts.len c.as_mut_slice.ensures.value
    (omega (arith, c.as_mut_slice.ensures.len)) c.undo_each.auto.parts c.in_ok-undo_each.ensures.steps in
    record { same = refl; made = omega (arith, more, one_at_most s.standing) }
