use Rattle.std.proofs.Common.{◌∙◌, map, sym}
use Rattle.std.specs.Prelude.{length}
use Rattle.std.proofs.lemmas.List.{length-map}
use Rattle.xa_base.proofs.Options.{on_ok}
use Rattle.xa_base.specs.declared.step.Step.TheVariants as Steps
use Rattle.xa_model.specs.Trace.{Fault.InDone, Happening.Done}
use Rattle.xa_tm.specs.InTurn.{done_refusal}
use Rattle.xa_tm.specs.Calls.{book_in}
use Rattle.xa_session.proofs.Following.{follows_if_ok}
use Rattle.xa_session.proofs.Refusals.{no_fault_in_turn}
use Rattle.xa_session.proofs.Sessions.{refusal_of_all_is, sized_by_call}
use Rattle.xa_session.proofs.AskedLogs.{Concludes, concluded}
use Rattle.xa_session.proofs.Turns.{done_lead, done_may}
use Rattle.xa_session.specs.Logging.{KeepsLog}
use Rattle.std.proofs.Common.{refl, subst}
use Rattle.xa_session.proofs.Logging.{asked_keeps}
use Rattle.xa_session.proofs.LoggedChanges.{all_done, removals_change}
use Rattle.xa_tm.specs.Book.{Doubt.Drops}
use Rattle.xa_session.proofs.StepLemmas.{concluded_asks, concluded_happens, concluded_obeys}
use Rattle.xa_session.specs.Session.{done_all_refusal as session_refusal}
use Rattle.xa_session.proofs.session.Session.done_all.Goals as goal

pub returns-clause-ready : goal.returns-clause-ready
returns-clause-ready g c =
    let s = c.args.self.now in
    let k = book_in s.manager in
    let gs = c.args.gtrids.now in
    concluded s _ _ (length gs) (done_refusal k gs) (Drops gs) (InDone gs)
    (map (λ g. Done g) gs) c.done_all-reply.result c.requires (sym c.has_room_for.ensures ∙ c.if-not-has_room_for.false)
    (sym (length-map gs (λ g. Done g)))
    (record { manager = c.conclude.ensures.manager; lines = c.conclude.ensures.lines; happenings = c.conclude.ensures.happenings }) tt
    (no_fault_in_turn (λ g. Steps.Done g) (λ g. Done g) gs k) c.done_all-reply.ensures.refused
    (on_ok c.done_all-reply.result _ _ (done_may gs k) c.done_all-reply.ensures.allowed) c.done_all-reply.ensures.ok
    c.done_all-reply.ensures.err

pub returns-clause-keeps : goal.returns-clause-keeps
returns-clause-keeps g c =
    let moment = g.L.DecisionLog.moment in
    let s = c.args.self.now in
    let k = book_in s.manager in
    let gs = c.args.gtrids.now in
    let call = c.done_all-reply in
    subst (KeepsLog moment s.manager) (sym c.conclude.ensures.manager)
    (asked_keeps moment (done_refusal k gs) (Drops gs) (InDone gs) s.manager call.new.self call.result
    (λ log b d order is left. g.met.L.DecisionLog.durable log b d order is left)
    (record {
      asks = call.ensures.asks;
      tied = call.ensures.tied;
      unasked = call.ensures.kept;
      never = no_fault_in_turn (λ g. Steps.Done g) (λ g. Done g) gs k;
      refused = call.ensures.refused;
      err = call.ensures.err;
      ok = all_done moment gs s.manager call.new.self call.result call.ensures.allowed call.ensures.ok call.ensures.without_row;
      change = λ none fault. removals_change k gs none (call.ensures.asked fault);
      still = λ n. refl;
    }))

pub invariant_of-self : goal.invariant_of-self
invariant_of-self g c =
    let s = c.args.self.now in
    let k = book_in s.manager in
    let gs = c.args.gtrids.now in
    let call = c.done_all-reply in
    record {
      sized = sized_by_call s call.new.self (done_refusal k gs) (Drops gs) (InDone gs) (map (λ g. Done g) gs) call.result call.ensures.refused
          call.ensures.ok call.ensures.err;
    }

pub returns-clause-finishes : goal.returns-clause-finishes
returns-clause-finishes g c =
    let s = c.args.self.now in
    let k = book_in s.manager in
    let gs = c.args.gtrids.now in
    let call = c.done_all-reply in
    let new = c.conclude.new.self in
    let why = done_refusal k gs in
    let session_why = session_refusal s gs in
    let is = refusal_of_all_is s done_refusal gs (sym c.has_room_for.ensures ∙ c.if-not-has_room_for.false) in
    let done : Concludes s new call.new.self (length gs) call.result = record {
      manager = c.conclude.ensures.manager;
      lines = c.conclude.ensures.lines;
      happenings = c.conclude.ensures.happenings;
    } in
    let same = c.conclude.ensures.value in
    let monitor = c.conclude.ensures.monitor in
    let refused = call.ensures.refused in
    record {
      rules = concluded_obeys s new call.new.self (length gs) why session_why call.result _ is done same monitor refused
          (no_fault_in_turn (λ g. Steps.Done g) (λ g. Done g) gs k) call.ensures.allowed;
      asks = concluded_asks s new call.new.self (length gs) why session_why call.result _ is done same monitor refused (Drops gs) (InDone gs) call.ensures.err
          call.ensures.kept;
      done = concluded_happens s new call.new.self (map (λ g. Done g) gs) call.result _ c.conclude.ensures.manager same call.ensures.ok
          (follows_if_ok s c.conclude.new.self (done_refusal (book_in s.manager) gs)
          (map (λ g. Done g) gs) c.done_all-reply.new.self c.done_all-reply.result _ (length gs)
          (sym (length-map gs (λ g. Done g))) c.conclude.ensures.happenings c.conclude.ensures.value c.conclude.ensures.manager c.conclude.ensures.lines
          c.done_all-reply.ensures.allowed c.done_all-reply.ensures.ok c.conclude.ensures.monitor
          (done_lead s c.conclude.new.self gs));
    }
