use Rattle.std.proofs.Common.{◌≡◌, map, string_bytes, take}
use Rattle.xa_scenario_file.proofs.document.lent.Given as goal

abbrev pub invariant-loop-name : goal.invariant-loop-name
invariant-loop-name l = map (λ text. text.now) l.texts.items ≡ map string_bytes (take l.name-index l.names)
