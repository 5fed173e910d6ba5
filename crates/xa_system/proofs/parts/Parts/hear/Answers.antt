use Rattle.std.proofs.Common.{inl, true, false, refl, sym, ap, subst, ◌∙◌}
use Rattle.std.specs.Option.{option_copied}
use Rattle.std.specs.Prelude.{Result, Err, slice_get}
use Rattle.xa_base.specs.Call.{map_call}
use Rattle.xa_model.specs.Replies.History.{name_of}
use Rattle.xa_base.specs.declared.refusal.Refusal.{Refusal}
use Rattle.xa_system.specs.Steps.{HearsOne}
use Rattle.xa_base.specs.declared.refusal.Refusal.TheVariants as Refusals
use Rattle.xa_base.specs.declared.step.Step.TheVariants as Steps
use Rattle.xa_line.specs.Traffic.{Traffic}
use Rattle.xa_system.specs.Parts.{sees}
use Rattle.xa_system.proofs.Steps.Hear.{hear_answers, hear_did, hear_fits, hear_found, hear_lacks, hear_limit, hear_nothing, hear_undone}
use Rattle.xa_system.proofs.Steps.HeardAnswers.{recorded_answer, some_and}
use Rattle.xa_system.proofs.Steps.OfManager.{sound_book}
use Rattle.xa_system.proofs.Histories.Standing.{site_read, up_is}
use Rattle.xa_system.proofs.Histories.RefusedSteps.{refused_goes}
use Rattle.xa_system.proofs.Log.Changes.{log_undone}
use Rattle.xa_system.proofs.parts.Parts.hear.Goals as goal

pub returns-then-not-has : goal.returns-then-not-has
returns-then-not-has g c =
    let see = sees g.R.ResourceManager.look g.L.DecisionLog.moment in
    let p = c.args.self.now in
    let t = c.args.thread in
    let r = c.args.rm in
    refused_goes see (Steps.Hear t r) p c.refused.result Refusals.Limit tt c.refused.ensures
    (λ tr stands. hear_limit see tr p t r (sym c.has.ensures.value ∙ c.if-not-has.true) stands)

pub returns-then-not-is_up : goal.returns-then-not-is_up
returns-then-not-is_up g c =
    let see = sees g.R.ResourceManager.look g.L.DecisionLog.moment in
    let p = c.args.self.now in
    let t = c.args.thread in
    let r = c.args.rm in
    let there = sym c.has.ensures.value ∙ c.if-not-has.false in
    refused_goes see (Steps.Hear t r) p c.refused-then-not-is_up.result Refusals.ManagerDown tt c.refused-then-not-is_up.ensures
    (λ tr stands. hear_found see tr p t r false _ there (sym c.is_up.ensures ∙ c.if-not-is_up.true) refl stands)

pub returns-then-not-index : goal.returns-then-not-index
returns-then-not-index g c =
    let see = sees g.R.ResourceManager.look g.L.DecisionLog.moment in
    let p = c.args.self.now in
    let t = c.args.thread in
    let r = c.args.rm in
    let there = sym c.has.ensures.value ∙ c.if-not-has.false in
    let up = sym c.is_up.ensures ∙ c.if-not-is_up.false in
    refused_goes see (Steps.Hear t r) p c.refused-then-not-index.result Refusals.RmDown tt c.refused-then-not-index.ensures
    (λ tr stands. hear_found see tr p t r true false there up
    (sym (stands.sites r c.index.result.now (site_read see tr p t r c.index.result.now stands there c.index.ensures)).is_up ∙ c.if-not-index.true) stands)

pub returns-in_default : goal.returns-in_default
returns-in_default g c tr stands few =
    let see = sees g.R.ResourceManager.look g.L.DecisionLog.moment in
    let p = c.args.self.now in
    let t = c.args.thread in
    let r = c.args.rm in
    let there = sym c.has.ensures.value ∙ c.if-not-has.false in
    let up = sym c.is_up.ensures ∙ c.if-not-is_up.false in
    let none =
    hear_found see tr p t r true true there up
    (sym (stands.sites r c.index.result.now (site_read see tr p t r c.index.result.now stands there c.index.ensures)).is_up ∙ c.if-not-index.false) stands in
    hear_nothing see tr p t r stands there none c.new.result c.new.ensures
    (sym (ap option_copied c.in_default.is) ∙ c.front_answer.ensures ∙ ap (λ (l : Traffic). slice_get l.answers.waiting 0) c.line.ensures.value)

pub returns-in_default-copy : goal.returns-in_default-copy
returns-in_default-copy g c tr stands few =
    let see = sees g.R.ResourceManager.look g.L.DecisionLog.moment in
    let p = c.args.self.now in
    let t = c.args.thread in
    let r = c.args.rm in
    let there = sym c.has.ensures.value ∙ c.if-not-has.false in
    let up = sym c.is_up.ensures ∙ c.if-not-is_up.false in
    let none =
    hear_found see tr p t r true true there up
    (sym (stands.sites r c.index.result.now (site_read see tr p t r c.index.result.now stands there c.index.ensures)).is_up ∙ c.if-not-index.false) stands in
    let first = sym (ap option_copied c.in-Some.is) ∙ c.front_answer.ensures ∙ ap (λ (l : Traffic). slice_get l.answers.waiting 0) c.line.ensures.value in
    hear_lacks see tr p t r stands there none c.in-Some.field-0.now.0 c.in-Some.field-0.now.1 p.manager c.refused-in_default-copy.result first
    c.refused-in_default-copy.ensures refl refl

pub hear-requires-clause-sound : goal.hear-requires-clause-sound
hear-requires-clause-sound g c =
    let see = sees g.R.ResourceManager.look g.L.DecisionLog.moment in
    let p = c.args.self.now in
    sound_book see p c.requires

pub hear-requires-clause-answers : goal.hear-requires-clause-answers
hear-requires-clause-answers g c =
    let see = sees g.R.ResourceManager.look g.L.DecisionLog.moment in
    let p = c.args.self.now in
    let t = c.args.thread in
    let r = c.args.rm in
    let tr = c.requires.0 in
    let stands = c.requires.1 in
    let there = sym c.has.ensures.value ∙ c.if-not-has.false in
    let up = sym c.is_up.ensures ∙ c.if-not-is_up.false in
    let none =
    hear_found see tr p t r true true there up
    (sym (stands.sites r c.index.result.now (site_read see tr p t r c.index.result.now stands there c.index.ensures)).is_up ∙ c.if-not-index.false) stands in
    let first = sym (ap option_copied c.in-Some.is) ∙ c.front_answer.ensures ∙ ap (λ (l : Traffic). slice_get l.answers.waiting 0) c.line.ensures.value in
    hear_answers see tr p t r stands there none c.in-Some.field-0.now.0 c.in-Some.field-0.now.1 first

pub hear-requires-clause-fits : goal.hear-requires-clause-fits
hear-requires-clause-fits g c =
    let see = sees g.R.ResourceManager.look g.L.DecisionLog.moment in
    let p = c.args.self.now in
    let t = c.args.thread in
    let r = c.args.rm in
    let tr = c.requires.0 in
    let stands = c.requires.1 in
    let there = sym c.has.ensures.value ∙ c.if-not-has.false in
    let up = sym c.is_up.ensures ∙ c.if-not-is_up.false in
    let none =
    hear_found see tr p t r true true there up
    (sym (stands.sites r c.index.result.now (site_read see tr p t r c.index.result.now stands there c.index.ensures)).is_up ∙ c.if-not-index.false) stands in
    let first = sym (ap option_copied c.in-Some.is) ∙ c.front_answer.ensures ∙ ap (λ (l : Traffic). slice_get l.answers.waiting 0) c.line.ensures.value in
    hear_fits see tr p t r stands there none c.in-Some.field-0.now.0 c.in-Some.field-0.now.1 first c.requires.2

pub returns-in-Ok-hear : goal.returns-in-Ok-hear
returns-in-Ok-hear g c tr stands few =
    let see = sees g.R.ResourceManager.look g.L.DecisionLog.moment in
    let p = c.args.self.now in
    let t = c.args.thread in
    let r = c.args.rm in
    let there = sym c.has.ensures.value ∙ c.if-not-has.false in
    let up = sym c.is_up.ensures ∙ c.if-not-is_up.false in
    let none =
    hear_found see tr p t r true true there up
    (sym (stands.sites r c.index.result.now (site_read see tr p t r c.index.result.now stands there c.index.ensures)).is_up ∙ c.if-not-index.false) stands in
    let first = sym (ap option_copied c.in-Some.is) ∙ c.front_answer.ensures ∙ ap (λ (l : Traffic). slice_get l.answers.waiting 0) c.line.ensures.value in
    let did = subst (λ (l : Traffic). HearsOne c.in-Some.field-0.now l c.heard.new.line c.heard.result) c.line_mut.ensures.value
    (some_and (λ pair. HearsOne pair c.line_mut.result.now c.heard.new.line c.heard.result)
    (slice_get c.line_mut.result.now.answers.waiting 0) c.in-Some.field-0.now
    (first ∙ ap (λ (l : Traffic). slice_get l.answers.waiting 0) (sym c.line_mut.ensures.value)) c.heard.ensures) in
    hear_did see tr p t r stands there none c.in-Some.field-0.now.0 c.in-Some.field-0.now.1 c.heard.new.line c.hear.new.self c.heard.result first did.reply_is
    c.in-Ok-hear.ensures.ok did.heard did.calls
    (record {
      order = c.in-Ok-hear.ensures.log.order;
      honest = c.in-Ok-hear.ensures.log.honest;
      tied = c.in-Ok-hear.ensures.tied;
      faults = λ o h t. c.in-Ok-hear.ensures.log.faults;
      counts = inl c.in-Ok-hear.ensures.log.faults;
    })

pub returns-in-Err : goal.returns-in-Err
returns-in-Err g c tr stands few =
    let see = sees g.R.ResourceManager.look g.L.DecisionLog.moment in
    let p = c.args.self.now in
    let t = c.args.thread in
    let r = c.args.rm in
    let there = sym c.has.ensures.value ∙ c.if-not-has.false in
    let up = sym c.is_up.ensures ∙ c.if-not-is_up.false in
    let none =
    hear_found see tr p t r true true there up
    (sym (stands.sites r c.index.result.now (site_read see tr p t r c.index.result.now stands there c.index.ensures)).is_up ∙ c.if-not-index.false) stands in
    let first = sym (ap option_copied c.in-Some.is) ∙ c.front_answer.ensures ∙ ap (λ (l : Traffic). slice_get l.answers.waiting 0) c.line.ensures.value in
    hear_undone see tr p t r stands there none c.in-Some.field-0.now.0 c.in-Some.field-0.now.1 c.in-Err.refusal c.undone.new.sites c.undone.new.lines
    c.hear.new.self c.undone.result first c.undone.ensures.reply
    (sym (up_is see tr p stands) ∙ up) (c.in-Err.ensures.err up)
    (λ e. recorded_answer (map_call name_of c.in-Some.field-0.now.0) c.in-Some.field-0.now.1
    (c.in-Err.ensures.asked (ap (λ (m : Refusal). let x : Result (Unit {0}) Refusal = Err m in x) e))) c.undone.ensures.failed c.undone.ensures.broken
    c.undone.ensures.sites_stay c.undone.ensures.lines_stay
    (λ known is_known. log_undone see.moment c.in-Err.refusal _ p.manager c.hear.new.self
    (c.in-Err.ensures.asks known is_known) c.in-Err.ensures.tied c.in-Err.ensures.kept)
