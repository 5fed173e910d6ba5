use Rattle.std.proofs.Common.{◌∙◌, [], ◌∷◌, refl, sym}
use Rattle.xa_base.proofs.Options.{on_ok}
use Rattle.xa_base.specs.declared.step.Outcome.TheVariants as Outcomes
use Rattle.xa_base.specs.declared.step.Step.TheVariants as Steps
use Rattle.xa_model.specs.Trace.{Fault.InDecide, Happening.Decided}
use Rattle.xa_tm.specs.Book.{Doubt.Adds, rows_for}
use Rattle.xa_tm.specs.Calls.{book_in}
use Rattle.xa_tm.specs.Refusing.{refusal_in}
use Rattle.xa_session.proofs.Refusals.{begun_if_settled, no_fault}
use Rattle.xa_session.proofs.Following.{settled_follows, follows_if_ok}
use Rattle.xa_session.proofs.Sessions.{refusal_is, room_for_one, sized_by_call}
use Rattle.xa_session.proofs.AskedLogs.{Concludes, concluded}
use Rattle.xa_session.specs.Logging.{KeepsLog}
use Rattle.std.proofs.Common.{subst}
use Rattle.xa_session.proofs.Headroom.{sound}
use Rattle.xa_session.proofs.Logging.{asked_keeps}
use Rattle.xa_session.proofs.LoggedChanges.{one_settled, settlement_changes}
use Rattle.xa_session.proofs.StepLemmas.{concluded_asks, concluded_happens, concluded_obeys}
use Rattle.xa_session.specs.Session.{refusal_at}
use Rattle.xa_session.proofs.session.Session.settle.Goals as goal

pub conclude-requires : goal.conclude-requires
conclude-requires g c = room_for_one c.args.self.now (sym c.is_over.ensures ∙ c.if-is_over.false)

pub returns-clause-ready : goal.returns-clause-ready
returns-clause-ready g c =
    let s = c.args.self.now in
    concluded s _ _ 1 (refusal_in (book_in s.manager) (Steps.Settle c.args.gtrid))
    (Adds (rows_for (book_in s.manager) (c.args.gtrid ∷ []))) (InDecide (c.args.gtrid ∷ []))
    (Decided c.args.gtrid Outcomes.Commit ∷ []) c.settle-reply.result c.requires (room_for_one s (sym c.is_over.ensures ∙ c.if-is_over.false)) refl
    (record { manager = c.conclude.ensures.manager; lines = c.conclude.ensures.lines; happenings = c.conclude.ensures.happenings }) tt
    (no_fault (book_in s.manager) (Steps.Settle c.args.gtrid)) c.settle-reply.ensures.refused
    (on_ok c.settle-reply.result _ _ (λ none. (begun_if_settled (book_in s.manager) c.args.gtrid none, tt)) c.settle-reply.ensures.allowed)
    c.settle-reply.ensures.ok c.settle-reply.ensures.err

pub returns-clause-keeps : goal.returns-clause-keeps
returns-clause-keeps g c =
    let moment = g.L.DecisionLog.moment in
    let s = c.args.self.now in
    let k = book_in s.manager in
    let h = c.args.gtrid in
    let call = c.settle-reply in
    subst (KeepsLog moment s.manager) (sym c.conclude.ensures.manager)
    (asked_keeps moment (refusal_in k (Steps.Settle h)) (Adds (rows_for k (h ∷ []))) (InDecide (h ∷ [])) s.manager call.new.self call.result
    (λ log b d order is left. g.met.L.DecisionLog.durable log b d order is left)
    (record {
      asks = call.ensures.asks;
      tied = call.ensures.tied;
      unasked = call.ensures.kept;
      never = no_fault k (Steps.Settle h);
      refused = call.ensures.refused;
      err = call.ensures.err;
      ok = one_settled moment h s.manager call.new.self call.result call.ensures.allowed call.ensures.ok;
      change = λ none fault. settlement_changes k h (sound _ k c.requires.headroom) none;
      still = λ n. refl;
    }))

pub invariant_of-self : goal.invariant_of-self
invariant_of-self g c =
    let s = c.args.self.now in
    let call = c.settle-reply in
    record {
      sized = sized_by_call s call.new.self (refusal_in (book_in s.manager) (Steps.Settle c.args.gtrid))
          (Adds (rows_for (book_in s.manager) (c.args.gtrid ∷ []))) (InDecide (c.args.gtrid ∷ [])) (Decided c.args.gtrid Outcomes.Commit ∷ []) call.result
          call.ensures.refused
          call.ensures.ok call.ensures.err;
    }

pub returns-clause-settles : goal.returns-clause-settles
returns-clause-settles g c =
    let s = c.args.self.now in
    let k = book_in s.manager in
    let call = c.settle-reply in
    let new = c.conclude.new.self in
    let why = refusal_in (book_in s.manager) (Steps.Settle c.args.gtrid) in
    let session_why = refusal_at s (Steps.Settle c.args.gtrid) in
    let is = refusal_is s (Steps.Settle c.args.gtrid) (sym c.is_over.ensures ∙ c.if-is_over.false) in
    let done : Concludes s new call.new.self 1 call.result = record {
      manager = c.conclude.ensures.manager;
      lines = c.conclude.ensures.lines;
      happenings = c.conclude.ensures.happenings;
    } in
    let same = c.conclude.ensures.value in
    let monitor = c.conclude.ensures.monitor in
    let refused = call.ensures.refused in
    record {
      rules = concluded_obeys s new call.new.self 1 why session_why call.result _ is done same monitor refused
          (no_fault (book_in s.manager) (Steps.Settle c.args.gtrid)) call.ensures.allowed;
      asks = concluded_asks s new call.new.self 1 why session_why call.result _ is done same monitor refused
          (Adds (rows_for (book_in s.manager) (c.args.gtrid ∷ []))) (InDecide (c.args.gtrid ∷ [])) call.ensures.err
          call.ensures.kept;
      asked = λ none fault. call.ensures.asked (sym is ∙ none) (sym c.conclude.ensures.value ∙ fault);
      decided = concluded_happens s new call.new.self (Decided c.args.gtrid Outcomes.Commit ∷ []) call.result _ c.conclude.ensures.manager same call.ensures.ok
          (follows_if_ok s c.conclude.new.self (refusal_in (book_in s.manager) (Steps.Settle c.args.gtrid))
          (Decided c.args.gtrid Outcomes.Commit ∷ []) c.settle-reply.new.self c.settle-reply.result _ 1 refl
          c.conclude.ensures.happenings c.conclude.ensures.value c.conclude.ensures.manager c.conclude.ensures.lines c.settle-reply.ensures.allowed
          c.settle-reply.ensures.ok c.conclude.ensures.monitor
          (settled_follows s c.conclude.new.self c.args.gtrid));
    }
