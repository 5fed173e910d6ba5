use Rattle.std.proofs.Common.{ap, map, string_bytes}
use Rattle.std.proofs.lemmas.Result.{err_from_is_err_and}
use Rattle.xa_display.proofs.ShowLemmas.{story_as}
use Rattle.xa_scenario_file.specs.Scenarios.{plan_of, scenario_of}
use Rattle.xa_files.proofs.ReadingLemmas.{ends_with}
use Rattle.xa_scenario.proofs.RunLemmas.{explains, not_of_work}
use Rattle.xa_display.proofs.explain.story_of_run.Goals as goal

pub returns-in_err-named-clause-fault : goal.returns-in_err-named-clause-fault
returns-in_err-named-clause-fault g c =
    let p = err_from_is_err_and c.from_residual.result c.from_residual.ensures.1 in
    rw (p.1, p.2) (explains c.in_err-named.field-0.0 c.args.text.now c.in_err-named.ensures.read)

pub returns-in_err-named-clause-work : goal.returns-in_err-named-clause-work
returns-in_err-named-clause-work g c =
    let p = err_from_is_err_and c.from_residual.result c.from_residual.ensures.1 in
    rw (p.1, p.2) (not_of_work c.in_err-named.field-0.0 c.args.text.now c.in_err-named.ensures.read)

pub returns-in_err-named-clause-refused : goal.returns-in_err-named-clause-refused
returns-in_err-named-clause-refused g c =
    let p = err_from_is_err_and c.from_residual.result c.from_residual.ensures.1 in
    λ e known. rw (p.1, p.2) (ends_with c.in_err-named.field-0.0 e (scenario_of c.args.text.now) c.in_err-named.ensures.read known)

pub returns-clause-told : goal.returns-clause-told
returns-clause-told g c = record {
  plan = plan_of c.in_ok-named.named.scenario;
  origin = _;
  events = c.in_ok-system.system.events;
  names = map string_bytes c.in_ok-named.named.names.items;
  fates = c.in_ok-fates.fates.items;
  run = record { reads = c.in_ok-named.ensures.read; over = c.in_ok-system.ensures.over; run = c.in_ok-system.ensures.run };
  named = c.in_ok-named.ensures.names;
  report = record { in_order = c.in_ok-fates.ensures.in_order; listed = c.in_ok-fates.ensures.listed };
  told = story_as (string_bytes c.in_ok-story.story) (ap (λ ns. map string_bytes ns) c.deref.ensures.value) c.trace.ensures
      c.deref-2.ensures.value c.in_ok-story.ensures;
}
