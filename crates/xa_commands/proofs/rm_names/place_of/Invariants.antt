use Rattle.std.proofs.Common.{◌≡◌, ◌≢◌, ◌<◌, ℕ, List, Bor, Some, slice_get}
use Rattle.xa_commands.proofs.rm_names.place_of.Given as goal

abbrev pub invariant-loop-place : goal.invariant-loop-place
invariant-loop-place l = (i : ℕ) (a : Bor (List ℕ)) → i < l.place → slice_get l.names i ≡ Some a → a.now ≢ l.name
