use Rattle.std.proofs.Common.{◌≡◌, ◌≢◌, ◌<◌, ℕ, List, Bor, Some, slice_get}
use Rattle.xa_commands.proofs.log_names.stands_before.Given as goal

abbrev pub invariant-loop-earlier : goal.invariant-loop-earlier
invariant-loop-earlier l =
    (i : ℕ) (a b : Bor (List ℕ)) → i < l.earlier → slice_get l.names i ≡ Some a → slice_get l.names l.place ≡ Some b → a.now ≢ b.now
