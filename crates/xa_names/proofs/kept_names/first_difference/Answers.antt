use Rattle.std.proofs.Common.{arith, ◌≡◌, ◌<◌, ◌≤◌, ◌∙◌, ℕ, List, [], Some, Bor, slice_get, get_or, sym, ap, subst, inl, inr}
use Rattle.std.proofs.lemmas.Option.{slice_get-get_or, slice_get_within, get_or_from_slice_get}
use Rattle.std.proofs.lemmas.Bool.Decides.{eqb_tells}
use Rattle.xa_names.proofs.KeptNamesLemmas.{apart, same}
use Rattle.xa_names.proofs.kept_names.first_difference.Goals as goal

abbrev none : Bor (List ℕ)
none = record { ref_ptr = (0, 0); now = [] }

pub returns-then-ne-clause-other : goal.returns-then-ne-clause-other
returns-then-ne-clause-other c =
    let k = get_or c.args.kept.now c.loop-place.place none in
    let g = get_or c.args.given.now c.loop-place.place none in (
      k,
      g,
      slice_get-get_or c.args.kept.now c.loop-place.place none (omega arith),
      slice_get-get_or c.args.given.now c.loop-place.place none (omega arith),
      apart k.now g.now c.if-ne.ensures,
    )

pub loop-place-preserved : goal.loop-place-preserved
loop-place-preserved c i a b below at_kept at_given = elim (eqb_tells i c.loop-place.place) [
  | inl is ↦ (
      let kept : get_or c.args.kept.now c.loop-place.place none ≡ a =
      get_or_from_slice_get c.args.kept.now c.loop-place.place a none (subst (λ j. slice_get c.args.kept.now j ≡ Some a) is.1 at_kept) in
      let given : get_or c.args.given.now c.loop-place.place none ≡ b =
      get_or_from_slice_get c.args.given.now c.loop-place.place b none (subst (λ j. slice_get c.args.given.now j ≡ Some b) is.1 at_given) in
      ap (λ (n : Bor (List ℕ)). n.now) (sym kept) ∙ same _ _ c.if-ne.ensures ∙ ap (λ (n : Bor (List ℕ)). n.now) given)
  | inr not ↦ (let apart = not.1 in c.loop-place.invariant i a b (omega arith) at_kept at_given)
]

pub returns-clause-same : goal.returns-clause-same
returns-clause-same c i a b at_kept at_given =
    let one = slice_get_within c.args.kept.now i a at_kept in
    let two = slice_get_within c.args.given.now i b at_given in
    c.loop-place.invariant i a b (omega arith) at_kept at_given
