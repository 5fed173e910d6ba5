use Rattle.std.proofs.Common.{◌≡◌, ◌∙◌, ◌+◌, ◌&&◌, map, filter, rules, tests, ap, refl}
use Rattle.std.proofs.lemmas.Iterator.{items_from_collect, YieldsList-from_map}
use Rattle.std.proofs.lemmas.Iterator.Consumers.{YieldsList-from_filter, YieldsList-from_rest, YieldsList-at}
use Rattle.std.proofs.lemmas.Result.{IfOk-weaker}
use Rattle.std.specs.BTreeMap.Range.{range_contains}
use Rattle.std.specs.Vec.{vec_items}
use Rattle.std.specs.declared.ops.Bound.TheVariants.{Included, Excluded}
use Rattle.xa_base.specs.Branch.{branch_cmp, gtrid_eq}
use Rattle.xa_base.specs.declared.branch.Branch.{Branch}
use Rattle.xa_tm.specs.declared.notes.BranchNotes.{BranchNotes}
use Rattle.xa_tm.proofs.Maps.StartedBranches.{voters_are, own_listed}
use Rattle.xa_tm.proofs.Maps.Ranges.{forward, in_turn, within}
use Rattle.xa_tm.proofs.ledger.Ledger.voters.Goals as goal

pub range-requires : goal.range-requires
range-requires c = forward c.args.g

pub returns-clause-all : goal.returns-clause-all
returns-clause-all c =
    let m = c.args.self.now.branches in
    let g = c.args.g in
    let voted = λ (e : Branch × BranchNotes). e.1.is_started && e.1.said_yes in
    let chosen = filter (λ (e : Branch × BranchNotes). gtrid_eq e.0.gtrid g && (e.1.is_started && e.1.said_yes)) m.entries in
    let run = items_from_collect _ c.collect.ensures.ran
    (YieldsList-from_map _ (λ (e : Branch × BranchNotes). e.0)
    (YieldsList-at c.map.ensures.source
    (YieldsList-from_filter _ (λ (e : Branch × BranchNotes). e.1.is_started && e.1.said_yes)
    (YieldsList-at c.filter.ensures.source (YieldsList-from_rest c.range.result refl)) c.filter.ensures.closure (λ x b q k. search (rules, tests))))
    c.map.ensures.closure (λ x r q k. search rules)) in
    let same : filter voted c.range.result ≡ chosen = ap (filter voted) (c.range.ensures.between tt)
    ∙ in_turn (λ (e : Branch × BranchNotes). range_contains branch_cmp (Included (record { gtrid = g; thread = 0; rm = 0 }))
    (Excluded (record { gtrid = record g { sequence = g.sequence + 1 }; thread = 0; rm = 0 })) e.0)
    (λ (e : Branch × BranchNotes). gtrid_eq e.0.gtrid g) voted (λ e. within g e.0) m.entries in
    IfOk-weaker c.collect.result (λ w. vec_items w ≡ map (λ (e : Branch × BranchNotes). e.0) (filter voted c.range.result)) _
    (λ w is. voters_are m g (vec_items w) c.range.ensures.ordered (is ∙ ap (map (λ (e : Branch × BranchNotes). e.0)) same)) run

pub returns-clause-own : goal.returns-clause-own
returns-clause-own c =
    let m = c.args.self.now.branches in
    let g = c.args.g in
    let voted = λ (e : Branch × BranchNotes). e.1.is_started && e.1.said_yes in
    let chosen = filter (λ (e : Branch × BranchNotes). gtrid_eq e.0.gtrid g && (e.1.is_started && e.1.said_yes)) m.entries in
    let run = items_from_collect _ c.collect.ensures.ran
    (YieldsList-from_map _ (λ (e : Branch × BranchNotes). e.0)
    (YieldsList-at c.map.ensures.source
    (YieldsList-from_filter _ (λ (e : Branch × BranchNotes). e.1.is_started && e.1.said_yes)
    (YieldsList-at c.filter.ensures.source (YieldsList-from_rest c.range.result refl)) c.filter.ensures.closure (λ x b q k. search (rules, tests))))
    c.map.ensures.closure (λ x r q k. search rules)) in
    let same : filter voted c.range.result ≡ chosen = ap (filter voted) (c.range.ensures.between tt)
    ∙ in_turn (λ (e : Branch × BranchNotes). range_contains branch_cmp (Included (record { gtrid = g; thread = 0; rm = 0 }))
    (Excluded (record { gtrid = record g { sequence = g.sequence + 1 }; thread = 0; rm = 0 })) e.0)
    (λ (e : Branch × BranchNotes). gtrid_eq e.0.gtrid g) voted (λ e. within g e.0) m.entries in
    IfOk-weaker c.collect.result (λ w. vec_items w ≡ map (λ (e : Branch × BranchNotes). e.0) (filter voted c.range.result)) _
    (λ w is. own_listed g m.entries (vec_items w) (is ∙ ap (map (λ (e : Branch × BranchNotes). e.0)) same)) run
