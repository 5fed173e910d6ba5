use Rattle.std.proofs.Common.{◌<◌, arith, map, refl, sym, ap, subst, ◌∙◌}
use Rattle.xa_line.specs.Grid.{Grid}
use Rattle.xa_system.specs.declared.site.Site.{Site}
use Rattle.xa_system.specs.SystemView.{observes}
use Rattle.xa_system.proofs.Histories.Start.{back_again, new_may_restart, new_sound, origin_same, starts_up}
use Rattle.xa_system.proofs.Histories.ClearStart.{not_both, starts_clear, starts_old, starts_right}
use Rattle.xa_model.specs.Protocol.{RightOrigin}
use Rattle.xa_system.specs.Parts.{Sees, sees}
use Rattle.xa_tm.specs.Calls.{log_in}
use Rattle.xa_tm.specs.Slots.{slot_moment}
use Rattle.xa_tm.specs.declared.slot.Slot.{Slot}
use Rattle.xa_system.proofs.Log.Changes.{slot_durable}
use Rattle.xa_system.proofs.Histories.SystemView.{holds}
use Rattle.xa_system.proofs.Histories.AfterEvent.{follows_a_crash}
use Rattle.xa_system.proofs.system.System.new.Goals as goal

pub invariant_of-result : goal.invariant_of-result
invariant_of-result g c =
    let see : Sees g.row.R.Denot (Slot g.row.L.Denot) =
    sees g.R.ResourceManager.look (slot_moment g.L.DecisionLog.moment) in
    let clear = rw c.as_slice.ensures.value at (c.if-not-are_clear.ensures.clear refl) in
    let moment = g.L.DecisionLog.moment in
    let some : 0 < c.args.threads = omega (arith, c.if-threads-eq0.false) in
    let parts = c.in_ok-parts.parts in
    let made = c.in_ok-parts.ensures in
    let rms = c.args.rms.items in
    new_sound see moment c.args.threads rms parts made.parts made.manager c.args.log made.log
    (starts_clear see c.args.threads rms parts.manager clear made.manager) (starts_old see c.args.threads rms parts.manager clear made.manager)
    (record { first = c.of-first.result; handed = c.of-handed.result; parts = parts; events = c.in_ok-events.events }) refl
    (slot_durable moment g.met.L.DecisionLog.durable) some c.in_ok-events.ensures.items c.in_ok-events.ensures.len c.in_ok-events.ensures.exact
    c.of-first.ensures
    c.of-handed.ensures

pub returns-clause-ok : goal.returns-clause-ok
returns-clause-ok g c =
    let first = c.in_ok-parts.ensures.parts in (
      c.in_ok-events.ensures.items,
      first.start,
      ap (map (λ (x : Site g.row.R.Denot). x.rm)) first.sites ∙ back_again c.args.rms.items,
      ap (λ (q : Grid). q.threads) first.lines,
      holds _ _ _ (invariant_of-result g c),
    )

pub returns-clause-right : goal.returns-clause-right
returns-clause-right g c =
    let see : Sees g.row.R.Denot (Slot g.row.L.Denot) =
    sees g.R.ResourceManager.look (slot_moment g.L.DecisionLog.moment) in
    let clear = rw c.as_slice.ensures.value at (c.if-not-are_clear.ensures.clear refl) in
    let parts = c.in_ok-parts.parts in
    let made = c.in_ok-parts.ensures in
    let rms = c.args.rms.items in
    subst RightOrigin (sym (origin_same see g.L.DecisionLog.moment c.args.threads rms parts made.parts made.manager))
    (starts_right see c.args.threads rms parts.manager clear made.manager)

pub returns-clause-not_clear : goal.returns-clause-not_clear
returns-clause-not_clear g c size un =
    let see = observes g.R.ResourceManager.look g.L.DecisionLog.moment in
    let clear = rw c.as_slice.ensures.value at (c.if-not-are_clear.ensures.clear refl) in
    absurd (not_both see.look c.args.rms.items clear un)

pub returns-clause-log : goal.returns-clause-log
returns-clause-log g c =
    let see : Sees g.row.R.Denot (Slot g.row.L.Denot) =
    sees g.R.ResourceManager.look (slot_moment g.L.DecisionLog.moment) in
    let moment = g.L.DecisionLog.moment in
    let made = c.in_ok-parts.ensures in
    let parts = c.in_ok-parts.parts in
    let sound = invariant_of-result g c in
    let near = new_may_restart see moment c.args.threads c.args.rms.items parts made.parts made.manager c.args.log made.log _ sound refl in
    record {
      handed = c.of-handed.ensures;
      first = c.of-first.ensures;
      begun = ap log_in made.parts.began;
      held = made.held;
      honest = made.log.honest;
      faults = made.log.faults;
      past = made.log.past;
      near = near;
      crash = λ order h. follows_a_crash see moment _ sound (slot_durable moment g.met.L.DecisionLog.durable)
          (starts_up see moment c.args.threads c.args.rms.items parts made.parts made.manager)
          (subst (λ l. (moment l).is_in_order) (sym c.of-handed.ensures) order) h (near order h);
    }

pub returns-in_err-events-clause-not_clear : goal.returns-in_err-events-clause-not_clear
returns-in_err-events-clause-not_clear g c size un =
    let see = observes g.R.ResourceManager.look g.L.DecisionLog.moment in
    let clear = rw c.as_slice.ensures.value at (c.if-not-are_clear.ensures.clear refl) in
    absurd (not_both see.look c.args.rms.items clear un)

pub returns-in_err-parts-clause-not_clear : goal.returns-in_err-parts-clause-not_clear
returns-in_err-parts-clause-not_clear g c size un =
    let see = observes g.R.ResourceManager.look g.L.DecisionLog.moment in
    let clear = rw c.as_slice.ensures.value at (c.if-not-are_clear.ensures.clear refl) in
    absurd (not_both see.look c.args.rms.items clear un)
