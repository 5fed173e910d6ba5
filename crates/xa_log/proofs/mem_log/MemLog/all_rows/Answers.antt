use Rattle.std.proofs.Common.{◌≡◌, IfOk, map, rules, sym, subst, ◌∙◌}
use Rattle.std.specs.BTreeMap.{keys}
use Rattle.std.specs.Vec.{vec_items}
use Rattle.std.proofs.lemmas.List.{map-id}
use Rattle.std.proofs.lemmas.Iterator.{items_from_collect, YieldsList-from_map}
use Rattle.std.proofs.lemmas.Iterator.Consumers.{YieldsList-from_copied, YieldsList-from_rest, YieldsList-at}
use Rattle.xa_base.specs.declared.branch.Branch.{Branch}
use Rattle.xa_base.specs.declared.code.How.{How}
use Rattle.xa_log.proofs.InOrder.{decision_keys, heuristics_listed}
use Rattle.xa_log.proofs.mem_log.MemLog.all_rows.Goals as goal

pub returns-clause-decisions : goal.returns-clause-decisions
returns-clause-decisions c =
    let run = items_from_collect _ c.collect.ensures.ran
    (YieldsList-from_copied (YieldsList-at c.copied.ensures.source (YieldsList-from_rest (keys c.args.self.now.decisions) c.keys.ensures.rest))) in
    subst (λ r. IfOk r (λ w. vec_items w ≡ keys c.args.self.now.decisions)) c.in_ok-collect.was run
    ∙ sym (decision_keys c.args.self.now.decisions c.keys.ensures.ordered)

pub returns-clause-heuristics : goal.returns-clause-heuristics
returns-clause-heuristics c =
    let rows = c.args.self.now.heuristics.entries in
    let run = items_from_collect _ c.collect-2.ensures.ran
    (YieldsList-from_map _ (λ (e : Branch × How). e)
    (YieldsList-at c.map.ensures.source (YieldsList-from_rest rows c.iter.ensures.rest)) c.map.ensures.closure (λ x r q k. search rules)) in
    subst (λ r. IfOk r (λ w. vec_items w ≡ map (λ (e : Branch × How). e) rows)) c.in_ok-collect-2.was run
    ∙ map-id rows ∙ sym (heuristics_listed c.args.self.now.heuristics c.iter.ensures.ordered)
