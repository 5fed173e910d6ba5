use Rattle.std.proofs.Common.{arith, ◌≡◌, ◌≢◌, ℕ, List, [], Some, Bor, slice_get, get_or, subst, inl, inr}
use Rattle.std.proofs.lemmas.Option.{get_or_from_slice_get, slice_get_within}
use Rattle.std.proofs.lemmas.Bool.Decides.{eqb_tells}
use Rattle.xa_commands.proofs.NameLemmas.{apart}
use Rattle.xa_commands.proofs.rm_names.place_of.Goals as goal

abbrev none : Bor (List ℕ)
none = record { ref_ptr = (0, 0); now = [] }

pub loop-place-preserved : goal.loop-place-preserved
loop-place-preserved c i a below at_i = elim (eqb_tells i c.loop-place.place) [
  | inl is ↦ (
      let first : get_or c.args.names.now c.loop-place.place none ≡ a =
      get_or_from_slice_get c.args.names.now c.loop-place.place a none (subst (λ j. slice_get c.args.names.now j ≡ Some a) is.1 at_i) in
      subst (λ (x : Bor (List ℕ)). x.now ≢ c.args.name.now) first (apart _ _ c.if-eq.ensures))
  | inr not ↦ (let apart = not.1 in c.loop-place.invariant i a (omega arith) at_i)
]

pub returns : goal.returns
returns c = record {
  none = λ i a at_i.
      let within = slice_get_within c.args.names.now i a at_i in
      c.loop-place.invariant i a (omega (arith, within)) at_i;
}
