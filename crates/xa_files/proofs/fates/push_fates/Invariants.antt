use Rattle.std.proofs.Common.{◌≡◌, ◌++◌, take}
use Rattle.std.specs.String.{string_bytes}
use Rattle.xa_files.specs.Fates.{fate_lines}
use Rattle.xa_files.proofs.fates.push_fates.Given as goal

abbrev pub invariant-loop-line : goal.invariant-loop-line
invariant-loop-line l = string_bytes l.text ≡ string_bytes l.fn.text ++ fate_lines (take l.line-index l.fates)
