use Rattle.std.proofs.Common.{◌≡◌, take}
use Rattle.std.specs.String.{string_bytes}
use Rattle.xa_scenario.specs.Replies.{trace_lines}
use Rattle.xa_scenario.proofs.replies.trace_lines.Given as goal

abbrev pub invariant-loop-i : goal.invariant-loop-i
invariant-loop-i l = string_bytes l.lines ≡ trace_lines 1 (take l.i l.events)
