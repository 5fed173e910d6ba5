use Rattle.std.proofs.Common.{◌≡◌, ℕ, subst, arith}
use Rattle.xa_restore.specs.Restored.{HasRaised}
use Rattle.xa_restore.proofs.RestoreLemmas.{not_raised, raised_once_more}
use Rattle.xa_restore.proofs.restore.raise_incarnation.Goals as goal

pub loop-start-init : goal.loop-start-init
loop-start-init g c = not_raised (g.L.DecisionLog.moment c.args.log.now)

pub loop-start-preserved : goal.loop-start-preserved
loop-start-preserved g c =
    let moment = g.L.DecisionLog.moment in
    raised_once_more (moment c.args.log.now) (moment c.loop-start.log) (moment c.bump.new.self) c.loop-start._start _ c.loop-start.invariant
    c.in_ok-bump.ensures.changes

pub returns-in_err-bump-clause-order : goal.returns-in_err-bump-clause-order
returns-in_err-bump-clause-order g c = λ order. c.bump.ensures.changes.order (c.loop-start.invariant.order order)

pub returns-in_err-bump-clause-honest : goal.returns-in_err-bump-clause-honest
returns-in_err-bump-clause-honest g c = λ honest. c.loop-start.invariant.honest (c.bump.ensures.changes.honest honest)

pub returns-clause-raised : goal.returns-clause-raised
returns-clause-raised g c =
    let moment = g.L.DecisionLog.moment in
    let HasRaisedBy : ℕ → _ = HasRaised (moment c.args.log.now) (moment c.loop-start.log) in
    let same : c.loop-start._start ≡ c.args.count = omega arith in
    subst HasRaisedBy same c.loop-start.invariant

pub returns-clause-order : goal.returns-clause-order
returns-clause-order g c = c.loop-start.invariant.order

pub returns-clause-honest : goal.returns-clause-honest
returns-clause-honest g c = c.loop-start.invariant.honest
