use Rattle.std.proofs.Common.{ap, arith, length, string_bytes}
use Rattle.std.proofs.lemmas.Result.{err_from_is_err_and}
use Rattle.xa_display.proofs.ShowLemmas.{picture_as}
use Rattle.xa_scenario_file.specs.Scenarios.{plan_of}
use Rattle.xa_scenario.proofs.RunLemmas.{explains}
use Rattle.xa_display.proofs.picture.picture_of_run.Goals as goal

pub returns-in_err-named-clause-fault : goal.returns-in_err-named-clause-fault
returns-in_err-named-clause-fault g c =
    let p = err_from_is_err_and c.from_residual.result c.from_residual.ensures.1 in
    rw (p.1, p.2) (explains c.in_err-named.field-0.0 c.args.text.now c.in_err-named.ensures.read)

pub returns-clause-drawn : goal.returns-clause-drawn
returns-clause-drawn g c = record {
  plan = plan_of c.in_ok-named.named.scenario;
  origin = _;
  events = c.in_ok-system.system.events;
  run = record { reads = c.in_ok-named.ensures.read; over = c.in_ok-system.ensures.over; run = c.in_ok-system.ensures.run };
  few = omega (arith, c.if-events-gt-MAX_EVENTS.false, ap length c.trace-events.ensures);
  drawn = picture_as c.in_ok-named.named.scenario.threads c.in_ok-named.named.scenario.rms (string_bytes c.in_ok-picture.picture)
      c.trace-events.ensures c.in_ok-picture.ensures.drawn;
}
