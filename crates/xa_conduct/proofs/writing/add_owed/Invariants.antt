use Rattle.std.proofs.Common.{◌≡◌, ◌++◌, take}
use Rattle.std.specs.List.{flat_map}
use Rattle.std.specs.Prelude.{codes, string_bytes}
use Rattle.xa_conduct.specs.Texts.{owed_at}
use Rattle.xa_conduct.proofs.writing.add_owed.Given as goal

-- so far each that is left is told
abbrev pub invariant-loop-part : goal.invariant-loop-part
invariant-loop-part l = string_bytes l.text ≡ (string_bytes l.fn.text ++ codes " owed") ++ flat_map owed_at (take l.part-index l.transaction.parts.items)
