use Rattle.std.proofs.Common.{◌≡◌, take}
use Rattle.std.specs.List.{flat_map}
use Rattle.std.specs.String.{string_bytes}
use Rattle.xa_story.specs.Lines.{line_text}
use Rattle.xa_story.proofs.story.lines_text.Given as goal

abbrev pub invariant-loop-line : goal.invariant-loop-line
invariant-loop-line l = string_bytes l.text ≡ flat_map line_text (take l.line-index l.lines)
