use Rattle.std.proofs.Common.{◌≡◌, Bool, true, false, not, ◌∙◌, ap, refl, rules, sym, tests}
use Rattle.std.proofs.lemmas.Iterator.Consumers.{YieldsList-from_rest}
use Rattle.std.proofs.lemmas.Iterator.Search.{any_from_yields_List}
use Rattle.std.specs.BTreeMap.Range.{range_contains}
use Rattle.std.specs.List.{list_any}
use Rattle.std.specs.declared.ops.Bound.TheVariants.{Included}
use Rattle.xa_base.specs.Branch.{branch_cmp}
use Rattle.xa_base.specs.declared.branch.Branch.{Branch}
use Rattle.xa_tm.specs.declared.notes.BranchNotes.{BranchNotes}
use Rattle.xa_tm.proofs.Maps.Ranges.{any_inside, inside}
use Rattle.xa_tm.proofs.Maps.Removals.{all_finished, is_of, is_owed, one_owed}
use Rattle.xa_tm.proofs.ledger.Ledger.are_finished.Goals as goal

pub range-requires : goal.range-requires
range-requires c = c.end_of.ensures.forward

pub returns-clause-finished : goal.returns-clause-finished
returns-clause-finished c =
    let g = c.args.g in
    let some =
    any_from_yields_List (is_owed g) _ _ c.any.result c.any.ensures.ran
    (YieldsList-from_rest c.range.result refl) (λ x b q k. search (rules, tests)) in
    let same : list_any (is_owed g) c.range.result ≡ list_any (is_owed g) c.args.self.now.branches.entries =
    ap (list_any (is_owed g)) (c.range.ensures.between tt)
    ∙ any_inside (λ (e : Branch × BranchNotes). range_contains branch_cmp (Included (record { gtrid = g; thread = 0; rm = 0 })) c.end_of.result e.0)
    (is_owed g) (λ e owed. inside g c.end_of.result c.end_of.ensures.own e.0 (is_of g e owed)) c.args.self.now.branches.entries in
    λ is. all_finished c.args.self.now g c.range.ensures.ordered (sym (some ∙ same) ∙ turned c.any.result is)
  where
    turned : (t : Bool) → not t ≡ true → t ≡ false
    turned false e = refl
    turned true e = absurd (cc)

pub returns-clause-owed : goal.returns-clause-owed
returns-clause-owed c =
    let g = c.args.g in
    let some =
    any_from_yields_List (is_owed g) _ _ c.any.result c.any.ensures.ran
    (YieldsList-from_rest c.range.result refl) (λ x b q k. search (rules, tests)) in
    let same : list_any (is_owed g) c.range.result ≡ list_any (is_owed g) c.args.self.now.branches.entries =
    ap (list_any (is_owed g)) (c.range.ensures.between tt)
    ∙ any_inside (λ (e : Branch × BranchNotes). range_contains branch_cmp (Included (record { gtrid = g; thread = 0; rm = 0 })) c.end_of.result e.0)
    (is_owed g) (λ e owed. inside g c.end_of.result c.end_of.ensures.own e.0 (is_of g e owed)) c.args.self.now.branches.entries in
    λ is finished. one_owed c.args.self.now g c.range.ensures.ordered (sym (some ∙ same) ∙ turned c.any.result is) finished
  where
    turned : (t : Bool) → not t ≡ false → t ≡ true
    turned true e = refl
    turned false e = absurd (cc)
