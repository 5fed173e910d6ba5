use Rattle.std.proofs.Common.{◌≡◌, ◌∙◌, ◌∷◌, [], true, false, refl, sym, ap}
use Rattle.xa_base.specs.declared.reply.Event.{Event}
use Rattle.xa_scenario.specs.Plays.{begins_one}
use Rattle.xa_scenario.proofs.PlayLemmas.{begun_one, one}
use Rattle.xa_scenario.proofs.play.play_step.Goals as goal

pub returns-then-is_begin-clause-performs : goal.returns-then-is_begin-clause-performs
returns-then-is_begin-clause-performs g c =
    let event : Event = record { step = c.args.step; reply = c.act-reply.result } in
    let begun : begins_one c.args.step ≡ true = sym c.begins-is_begin.ensures ∙ c.if-is_begin.true in
    one _ event c.args.system.now.events c.act-reply.new.system.events c.act-reply.ensures.answered c.act-reply.ensures.added
    (refl, begun_one event true begun ∙ ap (λ gtrid. gtrid ∷ []) (sym c.gtrid_in-gtrid.ensures))

pub returns-else-is_begin-clause-performs : goal.returns-else-is_begin-clause-performs
returns-else-is_begin-clause-performs g c =
    let event : Event = record { step = c.args.step; reply = c.act-reply.result } in
    let begun : begins_one c.args.step ≡ false = sym c.begins-is_begin.ensures ∙ c.if-is_begin.false in
    one _ event c.args.system.now.events c.act-reply.new.system.events c.act-reply.ensures.answered c.act-reply.ensures.added
    (refl, begun_one event false begun)
