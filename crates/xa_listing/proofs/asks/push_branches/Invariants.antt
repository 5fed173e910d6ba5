use Rattle.std.proofs.Common.{◌≡◌, ◌++◌, take}
use Rattle.std.specs.List.{flat_map}
use Rattle.std.specs.String.{string_bytes}
use Rattle.xa_listing.specs.Asks.{commit_lines}
use Rattle.xa_listing.proofs.asks.push_branches.Given as goal

abbrev pub invariant-loop-branch : goal.invariant-loop-branch
invariant-loop-branch l = string_bytes l.text ≡ string_bytes l.fn.text ++ flat_map (commit_lines l.manager) (take l.branch-index l.branches)
