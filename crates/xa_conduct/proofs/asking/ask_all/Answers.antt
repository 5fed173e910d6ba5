use Rattle.std.proofs.Common.{◌∙◌, ◌≤◌, ◌∷◌, ◌++◌, ◌+◌, List, [], ap, arith, length, refl, subst, sym, take}
use Rattle.std.proofs.lemmas.List.{take_all, take_more}
use Rattle.xa_requests.specs.declared.request.Request.{Request}
use Rattle.xa_conduct.proofs.ActLemmas.{none_done, plan_more}
use Rattle.xa_conduct.proofs.PlainLemmas.{each_passes}
use Rattle.xa_conduct.specs.Acting.{GoesOnBy}
use Rattle.xa_conduct.specs.Plain.{is_plain}
use Rattle.xa_conduct.proofs.asking.ask_all.Goals as goal

pub ask-requires-clause-plain : goal.ask-requires-clause-plain
ask-requires-clause-plain g c =
    ap is_plain c.request-item.is
    ∙ each_passes is_plain c.requests-request-items.result.now c.loop-request.request-index c.request-item.result
    c.requests-request-items.ensures.plain c.loop-request-test.true

pub loop-request-init : goal.loop-request-init
loop-request-init g c = record {
  ready = c.requires;
  acts = λ done first acts. acts;
  done = none_done g.L.DecisionLog.moment c.args.server.now;
}

pub loop-request-preserved : goal.loop-request-preserved
loop-request-preserved g c =
    let items = c.requests-request-items.result.now in
    let i = c.loop-request.request-index in
    let request = c.request-item.result in
    record {
      ready = c.in-Done.ensures.ready;
      acts = λ done first acts. c.in-Done.ensures.acts done first (c.loop-request.invariant.acts done first acts);
      done =
          plan_more g.L.DecisionLog.moment (take i items) request (take (i + 1) items) c.args.server.now c.loop-request.server c.ask.new.server
          (take_more items i request c.loop-request-test.true ∙ ap (λ (r : Request). take i items ++ r ∷ []) (sym c.request-item.is))
          c.loop-request.invariant.done (c.in-Done.ensures.done refl);
    }

pub returns-clause-done : goal.returns-clause-done
returns-clause-done g c = λ _.
    let items = c.requests-request-items.result.now in
    subst (λ (xs : List Request). GoesOnBy g.L.DecisionLog.moment xs c.args.server.now c.loop-request.server)
    (take_all c.loop-request.request-index items (omega arith) ∙ c.requests-request-items.ensures.same) c.loop-request.invariant.done
