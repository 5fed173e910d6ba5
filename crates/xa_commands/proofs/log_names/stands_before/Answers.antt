use Rattle.std.proofs.Common.{arith, ◌≡◌, ◌≢◌, ℕ, List, [], Some, Bor, slice_get, get_or, subst, inl, inr}
use Rattle.std.proofs.lemmas.Option.{get_or_from_slice_get}
use Rattle.std.proofs.lemmas.Bool.Decides.{eqb_tells}
use Rattle.xa_commands.proofs.NameLemmas.{apart}
use Rattle.xa_commands.proofs.log_names.stands_before.Goals as goal

abbrev none : Bor (List ℕ)
none = record { ref_ptr = (0, 0); now = [] }

pub loop-earlier-preserved : goal.loop-earlier-preserved
loop-earlier-preserved c i a b below at_i at_place = elim (eqb_tells i c.loop-earlier.earlier) [
  | inl is ↦ (
      let first : get_or c.args.names.now c.loop-earlier.earlier none ≡ a =
      get_or_from_slice_get c.args.names.now c.loop-earlier.earlier a none (subst (λ j. slice_get c.args.names.now j ≡ Some a) is.1 at_i) in
      let second : get_or c.args.names.now c.args.place none ≡ b = get_or_from_slice_get c.args.names.now c.args.place b none at_place in
      subst (λ (x : Bor (List ℕ)). x.now ≢ b.now) first
      (subst (λ (y : Bor (List ℕ)). (get_or c.args.names.now c.loop-earlier.earlier none).now ≢ y.now) second (apart _ _ c.if-eq.ensures)))
  | inr not ↦ (let apart = not.1 in c.loop-earlier.invariant i a b (omega arith) at_i at_place)
]
