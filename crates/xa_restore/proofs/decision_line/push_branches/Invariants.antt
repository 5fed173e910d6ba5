use Rattle.std.proofs.Common.{◌≡◌, ◌++◌, take}
use Rattle.std.specs.String.{string_bytes}
use Rattle.xa_restore.specs.LogLines.{branch_words}
use Rattle.xa_restore.proofs.decision_line.push_branches.Given as goal

abbrev pub invariant-loop-branch : goal.invariant-loop-branch
invariant-loop-branch l = string_bytes l.line ≡ string_bytes l.fn.line ++ branch_words (take l.branch-index l.branches)
