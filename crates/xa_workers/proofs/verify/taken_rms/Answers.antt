use Rattle.std.proofs.Common.{◌≡◌, ℕ, length, rules, subst}
use Rattle.xa_workers.specs.Fates.{HasOnly}
use Rattle.xa_workers.proofs.Places.{each_more}
use Rattle.xa_workers.proofs.verify.taken_rms.Goals as goal

pub loop-left-preserved : goal.loop-left-preserved
loop-left-preserved g c =
    let here : c.into_inner-rm.result.rm.number ≡ length c.loop-left.rms.items = search rules in
    let last : HasOnly (g.J.Run.is_own (length c.loop-left.rms.items)) c.into_rm.result =
    subst (λ (m : ℕ). HasOnly (g.J.Run.is_own m) c.into_rm.result) here c.into_rm.ensures in (
      tt,
      tt,
      rw c.in_ok-push.ensures.items (each_more (λ r rm. HasOnly (g.J.Run.is_own r) rm) c.loop-left.rms.items c.into_rm.result c.loop-left.invariant.2 last),
    )
