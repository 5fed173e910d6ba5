use Rattle.std.proofs.Common.{◌≡◌, ◌++◌, take}
use Rattle.std.specs.String.{string_bytes}
use Rattle.xa_listing.specs.Lines.{heuristic_lines}
use Rattle.xa_listing.proofs.lines.push_heuristics.Given as goal

abbrev pub invariant-loop-row : goal.invariant-loop-row
invariant-loop-row l = string_bytes l.text ≡ string_bytes l.fn.text ++ heuristic_lines (take l.row-index l.heuristics)
