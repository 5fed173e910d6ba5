use Rattle.xa_restore.specs.Restored.{HasRaised}
use Rattle.xa_restore.proofs.restore.raise_incarnation.Given as goal

abbrev pub invariant-loop-start : goal.invariant-loop-start
invariant-loop-start g l = HasRaised (g.L.DecisionLog.moment l.initial.log) (g.L.DecisionLog.moment l.log) l._start
