use Rattle.std.proofs.Common.{◌≡◌, map, take, string_bytes}
use Rattle.std.specs.List.{flat_map}
use Rattle.xa_diagnostics.specs.Json.{item_in}
use Rattle.xa_diagnostics.proofs.json.Item.collected.Given as goal

abbrev pub invariant-loop-line : goal.invariant-loop-line
invariant-loop-line l = map string_bytes l.texts.items ≡ flat_map (λ line. item_in l.self line.now) (take l.line-index l.lines)
