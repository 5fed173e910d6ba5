use Rattle.std.proofs.Common.{◌≡◌, ◌≢◌, ◌<◌, ℕ, List, Bor, Some, true, slice_get}
use Rattle.xa_restore.specs.Headings.{is_rm_name}
use Rattle.xa_commands.proofs.log_names.check_rm_names.Given as goal

abbrev pub invariant-loop-place : goal.invariant-loop-place
invariant-loop-place l = record {
  right : (i : ℕ) (a : Bor (List ℕ)) → i < l.place → slice_get l.names i ≡ Some a → is_rm_name a.now ≡ true;
  apart : (i j : ℕ) (a b : Bor (List ℕ)) → i < j → j < l.place → slice_get l.names i ≡ Some a → slice_get l.names j ≡ Some b → a.now ≢ b.now;
}
