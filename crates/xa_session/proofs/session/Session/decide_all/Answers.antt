use Rattle.std.proofs.Common.{◌∙◌, map, sym}
use Rattle.std.specs.Prelude.{length}
use Rattle.std.proofs.lemmas.List.{length-map}
use Rattle.xa_base.proofs.Options.{on_ok}
use Rattle.xa_base.specs.declared.step.Step.TheVariants as Steps
use Rattle.xa_model.specs.Trace.{Fault.InDecide, Happening.Decided}
use Rattle.xa_tm.specs.Calls.{book_in, written_by}
use Rattle.xa_tm.specs.InTurn.{decide_refusal, rows_added}
use Rattle.xa_session.proofs.Following.{follows_if_ok}
use Rattle.xa_session.proofs.Refusals.{no_fault_in_turn}
use Rattle.xa_session.proofs.Sessions.{refusal_of_all_is, sized_by_call}
use Rattle.xa_session.proofs.AskedLogs.{Concludes, concluded}
use Rattle.xa_session.proofs.Turns.{decisions_lead, decisions_may}
use Rattle.std.proofs.Common.{refl, subst}
use Rattle.xa_session.proofs.Headroom.{sound}
use Rattle.xa_session.proofs.Logging.{asked_keeps}
use Rattle.xa_session.proofs.LoggedChanges.{all_decided, decisions_change}
use Rattle.xa_session.specs.Logging.{KeepsLog}
use Rattle.xa_session.proofs.StepLemmas.{concluded_asks, concluded_happens, concluded_obeys}
use Rattle.xa_session.specs.Session.{decide_all_refusal as session_refusal}
use Rattle.xa_session.proofs.session.Session.decide_all.Goals as goal

pub returns-clause-ready : goal.returns-clause-ready
returns-clause-ready g c =
    let s = c.args.self.now in
    let k = book_in s.manager in
    let gs = c.args.gtrids.now in
    concluded s _ _ (length gs) (decide_refusal c.args.outcome k gs) (rows_added c.args.outcome k gs)
    (InDecide (written_by c.args.outcome k gs))
    (map (λ g. Decided g c.args.outcome) gs) c.decide_all-reply.result c.requires (sym c.has_room_for.ensures ∙ c.if-not-has_room_for.false)
    (sym (length-map gs (λ g. Decided g c.args.outcome)))
    (record { manager = c.conclude.ensures.manager; lines = c.conclude.ensures.lines; happenings = c.conclude.ensures.happenings }) tt
    (no_fault_in_turn (λ g. Steps.Decide g c.args.outcome) (λ g. Decided g c.args.outcome) gs k) c.decide_all-reply.ensures.refused
    (on_ok c.decide_all-reply.result _ _ (decisions_may c.args.outcome gs k) c.decide_all-reply.ensures.allowed) c.decide_all-reply.ensures.ok
    c.decide_all-reply.ensures.err

pub returns-clause-keeps : goal.returns-clause-keeps
returns-clause-keeps g c =
    let moment = g.L.DecisionLog.moment in
    let s = c.args.self.now in
    let k = book_in s.manager in
    let gs = c.args.gtrids.now in
    let o = c.args.outcome in
    let call = c.decide_all-reply in
    subst (KeepsLog moment s.manager) (sym c.conclude.ensures.manager)
    (asked_keeps moment (decide_refusal o k gs) (rows_added o k gs) (InDecide (written_by o k gs)) s.manager call.new.self call.result
    (λ log b d order is left. g.met.L.DecisionLog.durable log b d order is left)
    (record {
      asks = call.ensures.asks;
      tied = call.ensures.tied;
      unasked = call.ensures.kept;
      never = no_fault_in_turn (λ g. Steps.Decide g o) (λ g. Decided g o) gs k;
      refused = call.ensures.refused;
      err = call.ensures.err;
      ok = all_decided moment o gs s.manager call.new.self call.result call.ensures.allowed call.ensures.ok call.ensures.without_row;
      change = λ none fault. decisions_change o k gs (sound _ k c.requires.headroom) none (call.ensures.asked none fault);
      still = λ n. refl;
    }))

pub invariant_of-self : goal.invariant_of-self
invariant_of-self g c =
    let s = c.args.self.now in
    let k = book_in s.manager in
    let gs = c.args.gtrids.now in
    let call = c.decide_all-reply in
    record {
      sized = sized_by_call s call.new.self (decide_refusal c.args.outcome k gs) (rows_added c.args.outcome k gs) (InDecide (written_by c.args.outcome k gs))
          (map (λ g. Decided g c.args.outcome) gs) call.result call.ensures.refused
          call.ensures.ok call.ensures.err;
    }

pub returns-clause-decides : goal.returns-clause-decides
returns-clause-decides g c =
    let s = c.args.self.now in
    let k = book_in s.manager in
    let gs = c.args.gtrids.now in
    let call = c.decide_all-reply in
    let new = c.conclude.new.self in
    let why = decide_refusal c.args.outcome k gs in
    let session_why = session_refusal s c.args.outcome gs in
    let is = refusal_of_all_is s (decide_refusal c.args.outcome) gs (sym c.has_room_for.ensures ∙ c.if-not-has_room_for.false) in
    let done : Concludes s new call.new.self (length gs) call.result = record {
      manager = c.conclude.ensures.manager;
      lines = c.conclude.ensures.lines;
      happenings = c.conclude.ensures.happenings;
    } in
    let same = c.conclude.ensures.value in
    let monitor = c.conclude.ensures.monitor in
    let refused = call.ensures.refused in
    record {
      rules = concluded_obeys s new call.new.self (length gs) why session_why call.result _ is done same monitor refused
          (no_fault_in_turn (λ g. Steps.Decide g c.args.outcome) (λ g. Decided g c.args.outcome) gs k) call.ensures.allowed;
      asks = concluded_asks s new call.new.self (length gs) why session_why call.result _ is done same monitor refused (rows_added c.args.outcome k gs)
          (InDecide (written_by c.args.outcome k gs)) call.ensures.err
          call.ensures.kept;
      decided = concluded_happens s new call.new.self (map (λ g. Decided g c.args.outcome) gs) call.result _ c.conclude.ensures.manager same call.ensures.ok
          (follows_if_ok s c.conclude.new.self (decide_refusal c.args.outcome (book_in s.manager) gs)
          (map (λ g. Decided g c.args.outcome) gs) c.decide_all-reply.new.self c.decide_all-reply.result _ (length gs)
          (sym (length-map gs (λ g. Decided g c.args.outcome))) c.conclude.ensures.happenings c.conclude.ensures.value c.conclude.ensures.manager
          c.conclude.ensures.lines c.decide_all-reply.ensures.allowed c.decide_all-reply.ensures.ok c.conclude.ensures.monitor
          (decisions_lead s c.conclude.new.self c.args.outcome gs));
    }
