use Rattle.std.proofs.Common.{◌≡◌, All, Err, IsSomeAnd, ap, arith, length, refl, slice_get, subst, sym}
use Rattle.xa_scenario.proofs.StartLemmas.{new_at, none_in_doubt, none_open, not_wrong, has_started, unstarted}
use Rattle.xa_scenario.specs.Runs.{IsNewRm}
use Rattle.xa_scenario.proofs.start.system_of.Goals as goal
use Rattle.xa_system.specs.LogInHistory.{StartsOver}
use Rattle.xa_system.specs.SystemView.{HasWrongSize, observes, origin_in}
use Rattle.xa_system.specs.declared.system.NewFault.TheVariants as faults

pub returns-in-Ok-clause-start : goal.returns-in-Ok-clause-start
returns-in-Ok-clause-start g c =
    let look = g.R.ResourceManager.look in
    let rms = c.in-Ok.system.start in
    let each : All (IsNewRm look) rms = subst (All (IsNewRm look)) (sym c.in-Ok.ensures.ok.1) c.requires.new in
    record {
      threads = c.in-Ok.ensures.ok.3;
      rms = omega (arith, ap length c.in-Ok.ensures.ok.1, c.args.rms.ok.0, c.requires.count);
      unstarted = λ r x. unstarted look (slice_get rms r) (new_at look rms each r) x;
      in_doubt = λ r. none_in_doubt look (slice_get rms r) (new_at look rms each r);
      scans = λ r. none_open look (slice_get rms r) (new_at look rms each r);
    }

pub returns-in-Ok-clause-over : goal.returns-in-Ok-clause-over
returns-in-Ok-clause-over g c =
    let look = g.R.ResourceManager.look in
    let moment = g.L.DecisionLog.moment in
    let system = c.in-Ok.system in
    has_started (observes g.R.ResourceManager.look moment) c.args.log system refl
    c.in-Ok.ensures.log.begun c.in-Ok.ensures.log.handed c.in-Ok.ensures.log.honest
    (λ order honest.
    subst (λ log. IsSomeAnd (moment log).content (StartsOver (origin_in look system))) c.in-Ok.ensures.log.first
    (c.in-Ok.ensures.ok.4.log.start (subst (λ log. (moment log).is_in_order) (sym c.in-Ok.ensures.log.first) order) honest))
    c.in-Ok.ensures.log.near c.in-Ok.ensures.log.held

pub start_fault-requires-clause-limit : goal.start_fault-requires-clause-limit
start_fault-requires-clause-limit g c = λ is.
    let limit : c.new.result ≡ Err faults.Limit = cc in
    not_wrong c.args.scenario.now.threads c.args.scenario.now.rms c.requires.sized.threads c.requires.sized.rms
    (subst (HasWrongSize c.args.scenario.now.threads) c.requires.count (c.new.ensures.only_limit limit))
