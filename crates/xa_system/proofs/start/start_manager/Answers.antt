use Rattle.std.proofs.Common.{refl, sym, subst}
use Rattle.std.specs.Prelude.{IsSome}
use Rattle.xa_system.proofs.Histories.SlotStart.{IsInSlot, in_slot, over_in_slot, started_in_slot}
use Rattle.xa_tm.specs.Slots.{slot_moment}
use Rattle.xa_system.proofs.start.start_manager.Goals as goal

pub returns-clause-manager : goal.returns-clause-manager
returns-clause-manager g c =
    let moment = g.L.DecisionLog.moment in
    let at = c.into_slot.ensures in
    let slot : IsInSlot (slot_moment moment) moment c.in_ok-manager.manager c.into_slot.result =
    in_slot moment c.in_ok-manager.manager c.into_slot.result at.log at.book at.rows at.records in
    started_in_slot (slot_moment moment) moment c.args.threads c.args.rms c.in_ok-manager.manager c.into_slot.result slot c.in_ok-manager.ensures.started

pub returns-clause-log : goal.returns-clause-log
returns-clause-log g c =
    let moment = g.L.DecisionLog.moment in
    let at = c.into_slot.ensures in
    let slot : IsInSlot (slot_moment moment) moment c.in_ok-manager.manager c.into_slot.result =
    in_slot moment c.in_ok-manager.manager c.into_slot.result at.log at.book at.rows at.records in
    over_in_slot (slot_moment moment) moment c.args.threads c.args.rms c.in_ok-manager.manager c.into_slot.result (moment c.args.log) slot
    c.in_ok-manager.ensures.over

pub returns-clause-held : goal.returns-clause-held
returns-clause-held g c = subst IsSome (sym c.into_slot.ensures.log) refl
