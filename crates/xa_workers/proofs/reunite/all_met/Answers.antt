use Rattle.std.proofs.lemmas.List.Elements.{All-push}
use Rattle.xa_workers.specs.Outcomes.{IsThrough}
use Rattle.xa_workers.proofs.reunite.all_met.Goals as goal

pub loop-issuer-preserved : goal.loop-issuer-preserved
loop-issuer-preserved g c = (
  tt,
  tt,
  rw c.in_ok-push.ensures.items (All-push IsThrough c.loop-issuer.lines.items c.in-Some-met.line c.loop-issuer.invariant.2 c.in-Some-met.ensures),
)
