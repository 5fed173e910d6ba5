use Rattle.std.proofs.Common.{◌≡◌, take}
use Rattle.std.specs.List.{flat_map}
use Rattle.std.specs.String.{string_bytes}
use Rattle.xa_story.specs.Ends.{branch_end_line}
use Rattle.xa_story.proofs.ends.fates_text.Given as goal

abbrev pub invariant-loop-line : goal.invariant-loop-line
invariant-loop-line l = string_bytes l.text ≡ flat_map (branch_end_line l.names) (take l.line-index l.fates)
