use Rattle.std.proofs.Common.{◌≡◌, ◌≢◌, ◌∙◌, Some, ap, refl, subst, sym}
use Rattle.std.specs.Prelude.{slice_get}
use Rattle.std.specs.Option.{option_copied}
use Rattle.xa_base.proofs.Options.{some_is}
use Rattle.xa_base.specs.Answer.{map_answer}
use Rattle.xa_base.specs.Call.{map_call}
use Rattle.xa_base.specs.declared.refusal.Refusal.TheVariants.{LogFault, Memory}
use Rattle.xa_line.specs.Grid.{line_at, with_line}
use Rattle.xa_line.specs.Histories.{known}
use Rattle.xa_line.specs.Traffic.{Traffic}
use Rattle.xa_model.specs.Facts.{record_of}
use Rattle.xa_model.specs.Replies.History.{name_of}
use Rattle.xa_model.specs.Trace.{Fault.InHear, Happening.Heard, line}
use Rattle.xa_monitor.proofs.Following.{heard_in_room}
use Rattle.xa_monitor.specs.Monitor.{CanExplain, SaysTheSame, states_of}
use Rattle.xa_tm.specs.Book.{Doubt.NoDoubt, doubt_of}
use Rattle.xa_tm.specs.Calls.{FailsBy, book_in}
use Rattle.xa_session.proofs.Hearings.{answer_heard, has_answer, hearable}
use Rattle.xa_session.proofs.Lines.{all_with, may_tell, waiting_known}
use Rattle.xa_session.proofs.Sessions.{has_few, room_for_one, sized_after, sized_by_failure, stays_same, step_leaves}
use Rattle.xa_session.proofs.AskedLogs.{book_kept, failed, kept_stays}
use Rattle.xa_session.proofs.HeardAnswers.{answered_follows}
use Rattle.xa_session.specs.Hearing.{with_answer_heard}
use Rattle.xa_session.specs.declared.session.answers.Unfit.TheVariants.{Refused}
use Rattle.xa_session.specs.Logging.{KeepsLog}
use Rattle.xa_session.proofs.LoggedChanges.{heard_keeps, unheard_keeps}
use Rattle.std.proofs.Common.{inl, inr}
use Rattle.std.specs.Prelude.{Result, Err}
use Rattle.std.proofs.lemmas.Option.{none-some}
use Rattle.xa_base.specs.declared.refusal.Refusal.{Refusal}
use Rattle.xa_session.specs.Session.{happenings_by, lines_by}
use Rattle.xa_session.proofs.StepLemmas.{fits_so}
use Rattle.xa_session.proofs.session.Session.answer.Goals as goal

pub hear-requires-clause-answers : goal.hear-requires-clause-answers
hear-requires-clause-answers g c =
    (hearable (map_call name_of c.copy-call.result) (map_answer name_of c.args.answer) (sym c.can_hear.ensures ∙ c.if-not-can_hear.false)).answers

pub hear-requires-clause-fits : goal.hear-requires-clause-fits
hear-requires-clause-fits g c =
    (hearable (map_call name_of c.copy-call.result) (map_answer name_of c.args.answer) (sym c.can_hear.ensures ∙ c.if-not-can_hear.false)).fits

pub returns-in-Ok-hear-clause-ready : goal.returns-in-Ok-hear-clause-ready
returns-in-Ok-hear-clause-ready g c =
    let s = c.args.self.now in
    let t = c.args.thread in
    let r = c.args.rm in
    let may = may_tell s t r (sym c.in_ok-check_line.ensures) in
    let knows = (hearable (map_call name_of c.copy-call.result) (map_answer name_of c.args.answer) (sym c.can_hear.ensures ∙ c.if-not-can_hear.false)).known in
    step_leaves s _ NoDoubt (Heard (line t r) knows.0 (map_answer name_of c.args.answer)) c.requires (has_few s may.free) tt refl
    (c.in-Ok-hear.ensures.ok knows.0 knows.1)
    (all_with s.lines t r c.answer_first.new.self c.line_mut.ensures.whole may.has
    (ap (λ (l : Traffic). l.answers.waiting) c.answer_first.ensures ∙ answer_heard c.line_mut.result.now c.args.answer
    (ap (λ (l : Traffic). l.answers.waiting) c.line_mut.ensures.value ∙ c.requires.heard t r may.has)) c.requires.heard)

pub returns-in-Err-clause-ready : goal.returns-in-Err-clause-ready
returns-in-Err-clause-ready g c =
    let s = c.args.self.now in
    let t = c.args.thread in
    let r = c.args.rm in
    let may = may_tell s t r (sym c.in_ok-check_line.ensures) in
    let knows = (hearable (map_call name_of c.copy-call.result) (map_answer name_of c.args.answer) (sym c.can_hear.ensures ∙ c.if-not-can_hear.false)).known in
    failed s _ _ 1 (doubt_of (record_of knows.0 (map_answer name_of c.args.answer))) (InHear (line t r)) c.in-Err.refusal c.requires may.free
    (record { manager = c.conclude.ensures.manager; lines = c.conclude.ensures.lines; happenings = c.conclude.ensures.happenings }) tt
    (c.in-Err.ensures.err may.up knows.0 knows.1)

pub conclude-requires : goal.conclude-requires
conclude-requires g c =
    let may = may_tell c.args.self.now c.args.thread c.args.rm (sym c.in_ok-check_line.ensures) in
    room_for_one c.args.self.now may.free

pub returns-in-Ok-hear-clause-keeps : goal.returns-in-Ok-hear-clause-keeps
returns-in-Ok-hear-clause-keeps g c =
    let s = c.args.self.now in
    let t = c.args.thread in
    let r = c.args.rm in
    let a = map_answer name_of c.args.answer in
    let may = may_tell s t r (sym c.in_ok-check_line.ensures) in
    let knows = (hearable (map_call name_of c.copy-call.result) a (sym c.can_hear.ensures ∙ c.if-not-can_hear.false)).known in
    let e = c.in-Ok-hear.ensures in
    heard_keeps g.L.DecisionLog.moment (line t r) knows.0 a s.manager c.hear.new.self
    (λ log b d order is left. g.met.L.DecisionLog.durable log b d order is left)
    may.up (e.asks knows.0 knows.1) e.tied (e.ok knows.0 knows.1)

pub returns-in-Err-clause-keeps : goal.returns-in-Err-clause-keeps
returns-in-Err-clause-keeps g c =
    let moment = g.L.DecisionLog.moment in
    let s = c.args.self.now in
    let t = c.args.thread in
    let r = c.args.rm in
    let a = map_answer name_of c.args.answer in
    let may = may_tell s t r (sym c.in_ok-check_line.ensures) in
    let knows = (hearable (map_call name_of c.copy-call.result) a (sym c.can_hear.ensures ∙ c.if-not-can_hear.false)).known in
    let e = c.in-Err.ensures in
    subst (KeepsLog moment s.manager) (sym c.conclude.ensures.manager)
    (unheard_keeps moment (line t r) knows.0 a s.manager c.hear.new.self c.in-Err.refusal
    (λ log b d order is left. g.met.L.DecisionLog.durable log b d order is left) may.up (e.asks knows.0 knows.1) e.tied e.kept (e.err may.up knows.0 knows.1))

pub invariant_of-self-in-Ok-hear : goal.invariant_of-self-in-Ok-hear
invariant_of-self-in-Ok-hear g c =
    let s = c.args.self.now in
    let a = map_answer name_of c.args.answer in
    let knows = (hearable (map_call name_of c.copy-call.result) a (sym c.can_hear.ensures ∙ c.if-not-can_hear.false)).known in
    record {
      sized = sized_after s (book_in c.hear.new.self) NoDoubt (Heard (line c.args.thread c.args.rm) knows.0 a) (c.in-Ok-hear.ensures.ok knows.0 knows.1);
    }

pub invariant_of-self-in-Err : goal.invariant_of-self-in-Err
invariant_of-self-in-Err g c =
    let s = c.args.self.now in
    let a = map_answer name_of c.args.answer in
    let may = may_tell s c.args.thread c.args.rm (sym c.in_ok-check_line.ensures) in
    let knows = (hearable (map_call name_of c.copy-call.result) a (sym c.can_hear.ensures ∙ c.if-not-can_hear.false)).known in
    record {
      sized = sized_by_failure s (book_in c.hear.new.self) (doubt_of (record_of knows.0 a)) (InHear (line c.args.thread c.args.rm)) c.in-Err.refusal
          (c.in-Err.ensures.err may.up knows.0 knows.1);
    }

pub returns-in-Some-unexplained-clause-hears : goal.returns-in-Some-unexplained-clause-hears
returns-in-Some-unexplained-clause-hears g c =
    let s = c.args.self.now in
    let t = c.args.thread in
    let r = c.args.rm in
    let waits : slice_get (line_at s.lines t r).calls.waiting 0 ≡ Some c.copy-call.result =
    ap (λ (l : Traffic). slice_get l.calls.waiting 0) (sym c.line.ensures.value) ∙ sym c.front.ensures ∙ ap option_copied c.in-Some.is
    ∙ ap (λ k. Some k) (sym c.copy-call.ensures)
    in
    let fit = fits_so s t r c.args.answer c.copy-call.result (sym c.in_ok-check_line.ensures) waits (sym c.can_hear.ensures ∙ c.if-not-can_hear.false) in
    record {
      refused = λ u some. absurd (none-some u (sym fit ∙ some));
      allowed = tt;
      unexplained = λ b e.
          let may = may_tell s t r (sym c.in_ok-check_line.ensures) in
          let same : c.in-Some-unexplained.b ≡ b = cc in
          let knows = (hearable (map_call name_of c.copy-call.result) (map_answer name_of c.args.answer)
          (sym c.can_hear.ensures ∙ c.if-not-can_hear.false)).known in (
            (λ explains.
                subst (λ q. CanExplain (states_of s.monitor) (line t r) knows.0 (map_answer name_of c.args.answer) q → ⊥) same
                (c.in-Some-unexplained.ensures.some t knows.0 knows.1)
                (explains knows.0 (waiting_known s.lines t r c.copy-call.result may.there waits ∙ knows.1))),
            refl,
          );
      explained = λ fit not. absurd (not c.in-Some-unexplained.b refl);
      heard = tt;
      lines = tt;
      only = λ none. inr (c.in-Some-unexplained.b, refl);
      fails = λ n e. absurd cc;
      stays = λ not. stays_same s;
      broken = λ e. absurd cc;
      fault_counted = λ e. absurd cc;
    }

pub returns-in_default-make_room-clause-hears : goal.returns-in_default-make_room-clause-hears
returns-in_default-make_room-clause-hears g c =
    let s = c.args.self.now in
    let t = c.args.thread in
    let r = c.args.rm in
    let waits : slice_get (line_at s.lines t r).calls.waiting 0 ≡ Some c.copy-call.result =
    ap (λ (l : Traffic). slice_get l.calls.waiting 0) (sym c.line.ensures.value) ∙ sym c.front.ensures ∙ ap option_copied c.in-Some.is
    ∙ ap (λ k. Some k) (sym c.copy-call.ensures)
    in
    let fit = fits_so s t r c.args.answer c.copy-call.result (sym c.in_ok-check_line.ensures) waits (sym c.can_hear.ensures ∙ c.if-not-can_hear.false) in
    record {
      refused = λ u some. absurd (none-some u (sym fit ∙ some));
      allowed = tt;
      unexplained = λ b e. absurd cc;
      explained = λ fit not q some d is.
          let may = may_tell s t r (sym c.in_ok-check_line.ensures) in
          c.unexplained.ensures.none c.in_default-unexplained.is t d (sym (waiting_known s.lines t r c.copy-call.result may.there waits) ∙ is) q some;
      heard = tt;
      lines = tt;
      only = λ none. inl (Memory, refl);
      fails = λ n e none d front. inl (let same : Memory ≡ n = cc in sym same, refl);
      stays = λ not. record { book = refl; log = refl; lines = refl; happenings = refl; states = c.make_room.ensures.same };
      broken = λ e. absurd cc;
      fault_counted = λ e. absurd cc;
    }

pub returns-in-Ok-hear-clause-hears : goal.returns-in-Ok-hear-clause-hears
returns-in-Ok-hear-clause-hears g c =
    let s = c.args.self.now in
    let t = c.args.thread in
    let r = c.args.rm in
    let waits : slice_get (line_at s.lines t r).calls.waiting 0 ≡ Some c.copy-call.result =
    ap (λ (l : Traffic). slice_get l.calls.waiting 0) (sym c.line.ensures.value) ∙ sym c.front.ensures ∙ ap option_copied c.in-Some.is
    ∙ ap (λ k. Some k) (sym c.copy-call.ensures)
    in
    let fit = fits_so s t r c.args.answer c.copy-call.result (sym c.in_ok-check_line.ensures) waits (sym c.can_hear.ensures ∙ c.if-not-can_hear.false) in
    record {
      refused = λ u some. absurd (none-some u (sym fit ∙ some));
      allowed = fit;
      unexplained = λ b e. absurd cc;
      explained = λ fit not q some d is.
          let may = may_tell s t r (sym c.in_ok-check_line.ensures) in
          c.unexplained.ensures.none c.in_default-unexplained.is t d (sym (waiting_known s.lines t r c.copy-call.result may.there waits) ∙ is) q some;
      heard = λ d front.
          let call = front.0 in
          let first = front.1 in
          let is = front.2 in
          let may = may_tell s t r (sym c.in_ok-check_line.ensures) in
          let knows : known c.copy-call.result ≡ Some d = subst (λ k. known k ≡ Some d) (some_is _ _ (sym first ∙ waits)) is in
          record {
            book = c.in-Ok-hear.ensures.ok d knows;
            has = has_answer (map_call name_of c.copy-call.result) (map_answer name_of c.args.answer) d (sym c.can_hear.ensures ∙ c.if-not-can_hear.false)
                knows;
            follows = record {
              leads =
                  answered_follows s _ t r call d c.args.answer may first is (c.requires.heard t r may.has) (c.in-Ok-hear.ensures.ok d knows)
                  (ap (with_line s.lines t r) (c.answer_first.ensures ∙ ap (λ (l : Traffic). with_answer_heard l c.args.answer) c.line_mut.ensures.value));
              counted = refl;
              states =
                  heard_in_room (states_of s.monitor) (states_of c.make_room.new.self) (states_of c.follow.new.self) c.make_room.ensures.same (line t r) d
                  (map_answer name_of c.args.answer) (c.unexplained.ensures.none c.in_default-unexplained.is t d knows) (c.follow.ensures (line t r) d knows);
            };
          };
      lines = ap (with_line s.lines t r) (c.answer_first.ensures ∙ ap (λ (l : Traffic). with_answer_heard l c.args.answer) c.line_mut.ensures.value);
      only = λ none. tt;
      fails = λ n e. absurd cc;
      stays = tt;
      broken = λ e. absurd cc;
      fault_counted = λ e. absurd cc;
    }

pub returns-in-Err-clause-hears : goal.returns-in-Err-clause-hears
returns-in-Err-clause-hears g c =
    let s = c.args.self.now in
    let t = c.args.thread in
    let r = c.args.rm in
    let waits : slice_get (line_at s.lines t r).calls.waiting 0 ≡ Some c.copy-call.result =
    ap (λ (l : Traffic). slice_get l.calls.waiting 0) (sym c.line.ensures.value) ∙ sym c.front.ensures ∙ ap option_copied c.in-Some.is
    ∙ ap (λ k. Some k) (sym c.copy-call.ensures)
    in
    let fit = fits_so s t r c.args.answer c.copy-call.result (sym c.in_ok-check_line.ensures) waits (sym c.can_hear.ensures ∙ c.if-not-can_hear.false) in
    record {
      refused = λ u some. absurd (none-some u (sym fit ∙ some));
      allowed = tt;
      unexplained = λ b e. absurd cc;
      explained = λ fit not q some d is.
          let may = may_tell s t r (sym c.in_ok-check_line.ensures) in
          c.unexplained.ensures.none c.in_default-unexplained.is t d (sym (waiting_known s.lines t r c.copy-call.result may.there waits) ∙ is) q some;
      heard = tt;
      lines = tt;
      only = λ none. inl (c.in-Err.refusal, refl);
      fails = λ n e none d front.
          let may = may_tell s t r (sym c.in_ok-check_line.ensures) in
          let same : c.in-Err.refusal ≡ n = cc in
          let knows : known c.copy-call.result ≡ Some d = subst (λ k. known k ≡ Some d) (some_is _ _ (sym front.1 ∙ waits)) front.2 in
          let doubt = doubt_of (record_of d (map_answer name_of c.args.answer)) in
          subst (λ m. FailsBy doubt (InHear (line t r)) (book_in s.manager) (book_in m) n) (sym c.conclude.ensures.manager)
          (subst (FailsBy doubt (InHear (line t r)) (book_in s.manager) (book_in c.hear.new.self)) same (c.in-Err.ensures.err may.up d knows));
      stays = λ not.
          let may = may_tell s t r (sym c.in_ok-check_line.ensures) in
          let knows = (hearable (map_call name_of c.copy-call.result) (map_answer name_of c.args.answer)
          (sym c.can_hear.ensures ∙ c.if-not-can_hear.false)).known in
          let fault : c.in-Err.refusal ≢ LogFault = λ e. not (ap (λ n. Refused n) e) in
          let same : SaysTheSame s.monitor c.conclude.new.self.monitor =
          λ b. ap (λ m. states_of m b) c.conclude.ensures.monitor ∙ c.drop_room.ensures.same b ∙ c.make_room.ensures.same b in
          kept_stays s c.conclude.new.self c.hear.new.self 1 c.in-Err.refusal
          (record { manager = c.conclude.ensures.manager; lines = c.conclude.ensures.lines; happenings = c.conclude.ensures.happenings }) same
          (book_kept s c.conclude.new.self c.hear.new.self 1 (doubt_of (record_of knows.0 (map_answer name_of c.args.answer))) (InHear (line t r))
          c.in-Err.refusal
          (c.in-Err.ensures.err may.up knows.0 knows.1) fault)
          (c.in-Err.ensures.kept fault) fault;
      broken = λ e.
          let fault : c.in-Err.refusal ≡ LogFault = cc in
          c.conclude.ensures.lines ∙ ap (λ n. lines_by (let x : Result (Unit {0}) Refusal = Err n in x) s.lines) fault;
      fault_counted = λ e.
          let fault : c.in-Err.refusal ≡ LogFault = cc in
          c.conclude.ensures.happenings ∙ ap (λ n. happenings_by (let x : Result (Unit {0}) Refusal = Err n in x) 1 s.happenings) fault;
    }
