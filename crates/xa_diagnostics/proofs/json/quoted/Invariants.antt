use Rattle.std.proofs.Common.{◌≡◌, ◌∷◌, ◌++◌, [], string_bytes}
use Rattle.std.specs.List.{flat_map}
use Rattle.xa_diagnostics.specs.Json.{escaped}
use Rattle.xa_diagnostics.proofs.json.quoted.Given as goal

abbrev pub invariant-loop-letter : goal.invariant-loop-letter
invariant-loop-letter l = string_bytes l.told ≡ (34 ∷ []) ++ flat_map escaped l.yielded
