use Rattle.std.proofs.Common.{◌≡◌, length}
use Rattle.std.specs.Ordering.{nat_cmp}
use Rattle.std.specs.Cmp.Lexicographic.{slice_cmp}
use Rattle.xa_base.proofs.words.order_of_bytes.Given as goal

abbrev pub invariant-words : goal.invariant-words
invariant-words l = slice_cmp nat_cmp l.rest l.other_rest ≡ slice_cmp nat_cmp l.bytes l.others

abbrev pub decreases-words : goal.decreases-words
decreases-words l = length l.rest
