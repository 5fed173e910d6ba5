use Rattle.std.proofs.Common.{◌≡◌, ◌++◌, take}
use Rattle.std.specs.String.{string_bytes}
use Rattle.xa_listing.specs.Asks.{ends_asked}
use Rattle.xa_listing.proofs.asks.push_ends.Given as goal

abbrev pub invariant-loop-row : goal.invariant-loop-row
invariant-loop-row l = string_bytes l.text ≡ string_bytes l.fn.text ++ ends_asked l.decisions (take l.row-index l.heuristics)
