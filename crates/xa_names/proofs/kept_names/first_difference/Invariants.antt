use Rattle.std.proofs.Common.{◌≡◌, ◌<◌, ℕ, List, Some, Bor, slice_get}
use Rattle.xa_names.proofs.kept_names.first_difference.Given as goal

abbrev pub invariant-loop-place : goal.invariant-loop-place
invariant-loop-place l =
    (i : ℕ) (a b : Bor (List ℕ)) → i < l.place → slice_get l.kept i ≡ Some a → slice_get l.given i ≡ Some b → a.now ≡ b.now
