use Rattle.std.proofs.Common.{◌∙◌, ◌++◌, ◌+◌, [], ◌∷◌, ap, drop, map}
use Rattle.xa_server.proofs.LineLemmas.{each_is_asked, mapped_all, mapped_on, some_asked}
use Rattle.xa_server.specs.Lines.{asked_in}
use Rattle.xa_server.specs.NamedLines.{line_read}
use Rattle.xa_server.proofs.lines.all_asked_by.Goals as goal

pub loop-request-init : goal.loop-request-init
loop-request-init c =
    ap (λ items. items ++ map (λ request. asked_in (line_read c.args.name.now request.now)) c.as_slice-request-items.result.now)
    c.new-asked.ensures.items

pub loop-request-preserved : goal.loop-request-preserved
loop-request-preserved c =
    let name = c.args.name.now in
    let requests = c.as_slice-request-items.result.now in
    let i = c.loop-request.request-index in
    let asked = c.loop-request.asked.items in
    ap (λ items. items ++ map (λ request. asked_in (line_read name request.now)) (drop (i + 1) requests)) c.in_ok-push-2.ensures.items
    ∙ ap (λ what. (asked ++ what ∷ []) ++ map (λ request. asked_in (line_read name request.now)) (drop (i + 1) requests)) c.in_ok-what.ensures
    ∙ mapped_on (λ request. asked_in (line_read name request.now)) asked requests i _ _ c.loop-request-test.true c.loop-request.invariant

pub returns-clause-asked : goal.returns-clause-asked
returns-clause-asked c =
    let name = c.args.name.now in
    each_is_asked name c.args.line.now c.in_ok-requests.requests.items c.loop-request.asked.items c.if-line-gt-LINE_LIMIT.false
    c.in_ok-requests.ensures
    (mapped_all (λ request. asked_in (line_read name request.now)) c.loop-request.asked.items c.as_slice-request-items.result.now
    c.loop-request.request-index _ c.loop-request-test.false c.loop-request.invariant
    ∙ ap (map (λ request. asked_in (line_read name request.now))) c.as_slice-request-items.ensures.value)

pub returns-clause-some : goal.returns-clause-some
returns-clause-some c =
    let name = c.args.name.now in
    some_asked name c.args.line.now c.in_ok-requests.requests.items c.loop-request.asked.items c.if-line-gt-LINE_LIMIT.false
    c.in_ok-requests.ensures
    (mapped_all (λ request. asked_in (line_read name request.now)) c.loop-request.asked.items c.as_slice-request-items.result.now
    c.loop-request.request-index _ c.loop-request-test.false c.loop-request.invariant
    ∙ ap (map (λ request. asked_in (line_read name request.now))) c.as_slice-request-items.ensures.value)
