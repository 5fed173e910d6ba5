use Rattle.std.proofs.Common.{◌≡◌, ◌++◌, drop}
use Rattle.std.specs.String.{string_bytes}
use Rattle.xa_listing.specs.Lines.{decision_lines}
use Rattle.xa_listing.proofs.lines.push_decisions.Given as goal

abbrev pub invariant-loop-g : goal.invariant-loop-g
invariant-loop-g l =
    string_bytes l.text ++ decision_lines (drop l.g-index l.decisions) l.rest ≡ string_bytes l.fn.text ++ decision_lines l.decisions l.participants
