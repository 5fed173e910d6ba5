use Rattle.std.proofs.Common.{◌∙◌, ◌<◌, false, ap, arith, length, refl, subst, sym}
use Rattle.std.proofs.Math.ListN.{set}
use Rattle.std.proofs.lemmas.List.{get_or-set_same, get_or_default}
use Rattle.std.specs.Prelude.{string_bytes}
use Rattle.xa_conduct.proofs.BackingLemmas.{rest_begun}
use Rattle.xa_conduct.proofs.RestLemmas.{unmoved_set}
use Rattle.xa_conduct.proofs.ToldLemmas.{told_thread}
use Rattle.xa_conduct.proofs.TurnLemmas.{all_pass_set, passes_moved, said_thread}
use Rattle.xa_conduct.specs.Backing.{TransactionRests}
use Rattle.xa_conduct.specs.Over.{is_all_answered}
use Rattle.xa_conduct.specs.Told.{GivesWay}
use Rattle.xa_conduct.specs.declared.transaction.Transaction.{Transaction}
use Rattle.xa_conduct.proofs.notes.Notes.add_thread.Goals as goal

pub returns-clause-rests : goal.returns-clause-rests
returns-clause-rests c = λ asked rest.
    let t = c.in-Some.transaction.now in
    let here : TransactionRests asked t =
    subst (TransactionRests asked) (sym c.in-Some.ensures.value) (rest c.args.thread t (omega (arith, c.in-Some.ensures.variant.0 refl))) in
    rest_begun asked c.args.self.now.transactions.items c.args.thread c.add_begun.new.transaction (c.in_ok-add_begun.ensures.rests asked here) rest

pub returns-clause-tells : goal.returns-clause-tells
returns-clause-tells c = λ asked rest.
    let t = c.in-Some.transaction.now in
    let here : TransactionRests asked t =
    subst (TransactionRests asked) (sym c.in-Some.ensures.value) (rest c.args.thread t (omega (arith, c.in-Some.ensures.variant.0 refl))) in
    let ts = c.args.self.now.transactions.items in
    let within : c.args.thread < length ts = omega (arith, c.in-Some.ensures.variant.0 refl) in
    let told = record t { has_moved = false } in
    told_thread asked ts (set ts c.args.thread c.add_begun.new.transaction) c.args.thread told c.args.next (string_bytes c.args.text.now) (string_bytes c.add_told.new.text) (string_bytes c.add_begun.new.text) within
    (ap (λ (x : Transaction). x.gtrid) (c.in-Some.ensures.value ∙ get_or_default ts c.args.thread t told within)) here c.in_ok-add_told.ensures
    c.in_ok-add_begun.ensures.adds
    (subst (GivesWay told c.args.next) (sym (get_or-set_same ts c.args.thread c.add_begun.new.transaction told within)) c.in_ok-add_begun.ensures.gives)

pub returns-clause-passes : goal.returns-clause-passes
returns-clause-passes c =
    all_pass_set c.args.self.now.transactions.items c.args.thread c.in-Some.transaction.now c.add_begun.new.transaction
    (omega (arith, c.in-Some.ensures.variant.0 refl)) c.in-Some.ensures.value
    (passes_moved c.in-Some.transaction.now c.add_begun.new.transaction false c.in_ok-add_begun.ensures.passes)

pub returns-clause-said : goal.returns-clause-said
returns-clause-said c = λ reply is.
    said_thread c.args.thread reply (string_bytes c.args.text.now) (string_bytes c.add_told.new.text) (string_bytes c.add_begun.new.text) _ _ is
    c.in_ok-add_told.ensures c.in_ok-add_begun.ensures.adds

pub add_begun-requires : goal.add_begun-requires
add_begun-requires c =
    c.requires c.in-Some.transaction.now (omega (arith, c.in-Some.ensures.variant.0 refl))
    ∙ ap (λ (x : Transaction). is_all_answered x) (sym c.in-Some.ensures.value)

pub returns-clause-moved : goal.returns-clause-moved
returns-clause-moved c =
    unmoved_set c.args.self.now.transactions.items c.args.thread c.add_begun.new.transaction (omega (arith, c.in-Some.ensures.variant.0 refl))
    (c.in_ok-add_begun.ensures.moved refl)
