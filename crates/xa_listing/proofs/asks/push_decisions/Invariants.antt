use Rattle.std.proofs.Common.{◌≡◌, ◌++◌, drop}
use Rattle.std.specs.String.{string_bytes}
use Rattle.xa_listing.specs.Asks.{decision_asks}
use Rattle.xa_listing.specs.Lines.{row_lines}
use Rattle.xa_listing.proofs.asks.push_decisions.Given as goal

abbrev pub invariant-loop-g : goal.invariant-loop-g
invariant-loop-g l =
    string_bytes l.text ++ row_lines (decision_asks l.manager) (drop l.g-index l.decisions) l.rest
    ≡ string_bytes l.fn.text ++ row_lines (decision_asks l.manager) l.decisions l.participants
