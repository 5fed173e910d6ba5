use Rattle.std.proofs.Common.{◌<◌, ◌≤◌, arith, length, map, refl, sym, ap, subst, ◌∙◌}
use Rattle.std.specs.Prelude.{IsSomeAnd}
use Rattle.xa_tm.specs.Begins.{records_begun, rows_begun}
use Rattle.xa_tm.specs.Calls.{book_in, log_in}
use Rattle.xa_tm.specs.Slots.{slot_moment}
use Rattle.xa_tm.specs.declared.slot.Slot.{Slot}
use Rattle.xa_line.specs.Grid.{Grid}
use Rattle.xa_model.specs.Promises.Processes.{Resumes}
use Rattle.xa_model.specs.Protocol.{RightOrigin}
use Rattle.xa_model.specs.Trace.{Origin, Trace}
use Rattle.xa_system.specs.NextProcess.{Leaves}
use Rattle.xa_system.specs.Parts.{Sees, origin_of, sees}
use Rattle.xa_system.specs.Steps.{AreCrashed}
use Rattle.xa_system.specs.SystemView.{ArePast, HasNewer}
use Rattle.xa_system.specs.declared.site.Site.{Site}
use Rattle.xa_system.proofs.Histories.NextProcess.{each_resumes, finds_newer}
use Rattle.xa_system.proofs.Histories.Past.{none_newer, of_sites, past_old, past_over}
use Rattle.xa_system.proofs.Histories.CrashedRms.{all_still, newer_after, still_clear}
use Rattle.xa_system.proofs.Histories.Start.{back_again, new_may_restart, new_sound, origin_same, starts_over_log, starts_up}
use Rattle.xa_system.proofs.Histories.ClearStart.{starts_right}
use Rattle.xa_system.proofs.Histories.SystemView.{holds}
use Rattle.xa_system.proofs.Histories.AfterEvent.{follows_a_crash}
use Rattle.xa_system.proofs.Log.Changes.{slot_durable}
use Rattle.xa_system.proofs.system.System.resume.Goals as goal

pub invariant_of-result : goal.invariant_of-result
invariant_of-result g c =
    let see : Sees g.row.R.Denot (Slot g.row.L.Denot) =
    sees g.R.ResourceManager.look (slot_moment g.L.DecisionLog.moment) in
    let moment = g.L.DecisionLog.moment in
    let crashes = c.crash_rms.ensures in
    let some : 0 < c.args.threads = omega (arith, c.if-threads-eq0.false) in
    let rms = c.crash_rms.new.rms.items in
    let few : length rms ≤ 8 = omega (arith, crashes.count, c.if-len.false, c.len.ensures, c.args.rms.ok.0) in
    let parts = c.in_ok-parts.parts in
    let made = c.in_ok-parts.ensures in
    let past : ArePast see.look (book_in parts.manager).incarnation rms =
    of_sites (ArePast see.look) c.incarnation.result _ c.as_slice.result.now parts.sites.items rms c.incarnation.ensures c.as_slice.ensures.value
    made.parts.sites (c.if-not-are_past.ensures.past refl) in
    let still = all_still see.look c.args.rms.items rms crashes in
    new_sound see moment c.args.threads rms parts made.parts made.manager c.args.log made.log
    (past_over see c.args.threads rms parts.manager made.manager few past still) (past_old see c.args.threads rms parts.manager made.manager few past still)
    (record { first = c.of-first.result; handed = c.of-handed.result; parts = parts; events = c.in_ok-events.events }) refl
    (slot_durable moment g.met.L.DecisionLog.durable) some c.in_ok-events.ensures.items c.in_ok-events.ensures.len c.in_ok-events.ensures.exact
    c.of-first.ensures
    c.of-handed.ensures

pub returns-then-not-are_past-clause-only_newer : goal.returns-then-not-are_past-clause-only_newer
returns-then-not-are_past-clause-only_newer g c _ =
    let see : Sees g.row.R.Denot (Slot g.row.L.Denot) =
    sees g.R.ResourceManager.look (slot_moment g.L.DecisionLog.moment) in
    let rms = c.crash_rms.new.rms.items in
    let parts = c.in_ok-parts.parts in
    let made = c.in_ok-parts.ensures in
    let newer : HasNewer see.look (book_in parts.manager).incarnation rms =
    of_sites (HasNewer see.look) c.incarnation.result _ c.as_slice.result.now parts.sites.items rms c.incarnation.ensures c.as_slice.ensures.value
    made.parts.sites (c.if-not-are_past.ensures.newer refl) in
    finds_newer see.look c.args.rms.items rms c.crash_rms.ensures g.L.DecisionLog (origin_of see c.args.threads rms parts.manager) c.args.log
    (log_in parts.manager) made.held newer
    (starts_over_log see g.L.DecisionLog.moment c.args.threads rms parts made.parts made.manager c.args.log made.log)

pub returns-clause-newer : goal.returns-clause-newer
returns-clause-newer g c newer =
    let look = g.R.ResourceManager.look in
    let rms = c.crash_rms.new.rms.items in
    let parts = c.in_ok-parts.parts in
    let made = c.in_ok-parts.ensures in
    let past : ArePast look (book_in parts.manager).incarnation rms =
    of_sites (ArePast look) c.incarnation.result _ c.as_slice.result.now parts.sites.items rms c.incarnation.ensures c.as_slice.ensures.value made.parts.sites
    (c.if-not-are_past.ensures.past refl) in
    none_newer look (book_in parts.manager).incarnation rms past
    (newer_after look c.args.rms.items rms c.crash_rms.ensures (book_in parts.manager).incarnation
    (subst (λ m. HasNewer look (book_in m).incarnation c.args.rms.items) made.parts.began newer))

pub returns-clause-ok : goal.returns-clause-ok
returns-clause-ok g c =
    let look = g.R.ResourceManager.look in
    let first = c.in_ok-parts.ensures.parts in
    let rms = c.crash_rms.new.rms.items in (
      c.in_ok-events.ensures.items,
      first.start ∙ sym (ap (map (λ (x : Site g.row.R.Denot). x.rm)) first.sites ∙ back_again rms),
      subst (AreCrashed look c.args.rms.items) (sym first.start) c.crash_rms.ensures,
      ap (λ (q : Grid). q.threads) first.lines,
      holds _ _ _ (invariant_of-result g c),
    )

pub returns-clause-fresh : goal.returns-clause-fresh
returns-clause-fresh g c clear =
    let see : Sees g.row.R.Denot (Slot g.row.L.Denot) =
    sees g.R.ResourceManager.look (slot_moment g.L.DecisionLog.moment) in
    let rms = c.crash_rms.new.rms.items in
    let parts = c.in_ok-parts.parts in
    let made = c.in_ok-parts.ensures in
    let past : ArePast see.look (book_in parts.manager).incarnation rms =
    of_sites (ArePast see.look) c.incarnation.result _ c.as_slice.result.now parts.sites.items rms c.incarnation.ensures c.as_slice.ensures.value
    made.parts.sites (c.if-not-are_past.ensures.past refl) in
    subst RightOrigin (sym (origin_same see g.L.DecisionLog.moment c.args.threads rms parts made.parts made.manager))
    (starts_right see c.args.threads rms parts.manager
    (still_clear see.look c.args.rms.items rms c.crash_rms.ensures (book_in parts.manager).incarnation past clear) made.manager)

pub returns-clause-follows : goal.returns-clause-follows
returns-clause-follows g c order h =
    let see : Sees g.row.R.Denot (Slot g.row.L.Denot) =
    sees g.R.ResourceManager.look (slot_moment g.L.DecisionLog.moment) in
    let moment = g.L.DecisionLog.moment in
    let rms = c.crash_rms.new.rms.items in
    let parts = c.in_ok-parts.parts in
    let made = c.in_ok-parts.ensures in
    subst (λ (o : Origin). IsSomeAnd (moment c.args.log).content (λ content. (past : Trace) → Leaves see.look past c.args.rms.items content → Resumes past o))
    (sym (origin_same see moment c.args.threads rms parts made.parts made.manager))
    (each_resumes see.look c.args.rms.items rms c.crash_rms.ensures c.args.threads (book_in parts.manager).incarnation (rows_begun parts.manager)
    (records_begun parts.manager) (moment c.args.log).content made.manager.apart
    (starts_over_log see moment c.args.threads rms parts made.parts made.manager c.args.log made.log order h))

pub returns-clause-log : goal.returns-clause-log
returns-clause-log g c =
    let see : Sees g.row.R.Denot (Slot g.row.L.Denot) =
    sees g.R.ResourceManager.look (slot_moment g.L.DecisionLog.moment) in
    let moment = g.L.DecisionLog.moment in
    let made = c.in_ok-parts.ensures in
    let parts = c.in_ok-parts.parts in
    let sound = invariant_of-result g c in
    let near = new_may_restart see moment c.args.threads c.crash_rms.new.rms.items parts made.parts made.manager c.args.log made.log _ sound refl in
    record {
      handed = c.of-handed.ensures;
      first = c.of-first.ensures;
      begun = ap log_in made.parts.began;
      held = made.held;
      honest = made.log.honest;
      faults = made.log.faults;
      past = made.log.past;
      near = near;
      crash = λ order h. follows_a_crash see moment _ sound (slot_durable moment g.met.L.DecisionLog.durable)
          (starts_up see moment c.args.threads c.crash_rms.new.rms.items parts made.parts made.manager)
          (subst (λ l. (moment l).is_in_order) (sym c.of-handed.ensures) order) h (near order h);
    }
