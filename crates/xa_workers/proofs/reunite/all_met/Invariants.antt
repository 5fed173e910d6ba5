use Rattle.std.proofs.Common.{All}
use Rattle.xa_workers.specs.Outcomes.{IsThrough}
use Rattle.xa_workers.proofs.reunite.all_met.Given as goal

abbrev pub invariant-loop-issuer : goal.invariant-loop-issuer
invariant-loop-issuer g l =
    (goal.iterator-loop-issuer g).can_next l.issuer-iterator × (goal.iterator-loop-issuer g).is_finite l.issuer-iterator
    × All IsThrough l.lines.items
