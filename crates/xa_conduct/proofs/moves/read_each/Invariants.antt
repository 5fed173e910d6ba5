use Rattle.std.proofs.Common.{◌≡◌, length, take}
use Rattle.std.specs.Prelude.{map}
use Rattle.xa_conduct.specs.Moves.{ArePairedInOrder, IsReadOf}
use Rattle.xa_conduct.proofs.moves.read_each.Given as goal

-- so many parts were read
abbrev pub invariant-loop-part : goal.invariant-loop-part
invariant-loop-part l = record {
  count : length l.moves.items ≡ l.part-index;
  read : ArePairedInOrder IsReadOf (map (λ part. part.now) (take l.part-index l.parts)) l.moves.items;
}
