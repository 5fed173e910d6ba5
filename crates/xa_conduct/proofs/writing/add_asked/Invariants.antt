use Rattle.std.proofs.Common.{◌≡◌, ◌++◌, take}
use Rattle.std.specs.List.{flat_map}
use Rattle.std.specs.Prelude.{string_bytes}
use Rattle.xa_conduct.specs.Texts.{asked_number}
use Rattle.xa_conduct.proofs.writing.add_asked.Given as goal

-- so far each call is told
abbrev pub invariant-loop-part : goal.invariant-loop-part
invariant-loop-part l = string_bytes l.text ≡ string_bytes l.fn.text ++ flat_map asked_number (take l.part-index l.transaction.parts.items)
