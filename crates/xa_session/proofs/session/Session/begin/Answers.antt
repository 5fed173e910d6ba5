use Rattle.std.proofs.Common.{◌∙◌, ap, refl, sym}
use Rattle.xa_model.specs.Trace.{Happening.Begun}
use Rattle.xa_tm.specs.Book.{Doubt.NoDoubt}
use Rattle.xa_tm.specs.Calls.{book_in}
use Rattle.xa_tm.specs.Refusing.{service_refusal_in}
use Rattle.xa_session.proofs.Following.{begun_follows}
use Rattle.xa_session.proofs.Sessions.{begin_refusal_is, has_few, refused_or, same_leaves, sized_by, step_leaves}
use Rattle.xa_session.proofs.Logging.{quiet_keeps, same_begun, same_book}
use Rattle.xa_session.proofs.StepLemmas.{err_obeys, err_quiet, ok_obeys, ok_quiet}
use Rattle.xa_session.specs.Session.{begin_refusal}
use Rattle.xa_session.proofs.session.Session.begin.Goals as goal

pub returns-in-Ok-clause-ready : goal.returns-in-Ok-clause-ready
returns-in-Ok-clause-ready g c =
    let s = c.args.self.now in
    step_leaves s _ NoDoubt (Begun c.in-Ok.gtrid) c.requires (has_few s
    (sym c.is_over.ensures ∙ c.if-is_over.false)) c.in-Ok.ensures.value refl c.in-Ok.ensures.ok c.requires.heard

pub returns-in-Err-clause-ready : goal.returns-in-Err-clause-ready
returns-in-Err-clause-ready g c =
    let s = c.args.self.now in
    same_leaves s _ c.requires refl
    (refused_or (service_refusal_in (book_in s.manager) c.args.thread) _ _
    (λ n is. ap book_in (c.in-Err.ensures.refused n is).1) (λ none. (c.in-Err.ensures.err none).1)) refl

pub returns-in-Ok-clause-keeps : goal.returns-in-Ok-clause-keeps
returns-in-Ok-clause-keeps g c =
    let s = c.args.self.now in
    quiet_keeps g.L.DecisionLog.moment s.manager c.begin_in_service.new.self c.in-Ok.ensures.log
    (same_begun (book_in s.manager) (book_in c.begin_in_service.new.self) c.in-Ok.gtrid c.in-Ok.ensures.ok)

pub returns-in-Err-clause-keeps : goal.returns-in-Err-clause-keeps
returns-in-Err-clause-keeps g c =
    let s = c.args.self.now in
    quiet_keeps g.L.DecisionLog.moment s.manager c.begin_in_service.new.self c.in-Err.ensures.log
    (same_book (book_in s.manager) (book_in c.begin_in_service.new.self)
    (refused_or (service_refusal_in (book_in s.manager) c.args.thread) _ _
    (λ n is. ap book_in (c.in-Err.ensures.refused n is).1) (λ none. (c.in-Err.ensures.err none).1)))

pub invariant_of-self-in-Err-1 : goal.invariant_of-self-in-Err-1
invariant_of-self-in-Err-1 g c =
    let s = c.args.self.now in
    record {
      sized = sized_by s (book_in c.begin_in_service.new.self)
          (refused_or (service_refusal_in (book_in s.manager) c.args.thread) _ _
          (λ n is. ap book_in (c.in-Err.ensures.refused n is).1) (λ none. (c.in-Err.ensures.err none).1));
    }

pub returns-in-Ok-clause-begins : goal.returns-in-Ok-clause-begins
returns-in-Ok-clause-begins g c =
    let s = c.args.self.now in
    let why = begin_refusal s c.args.thread in
    let is = begin_refusal_is s c.args.thread (sym c.is_over.ensures ∙ c.if-is_over.false) in
    record {
      rules = ok_obeys why s _ c.in-Ok.gtrid (is ∙ c.in-Ok.ensures.allowed);
      quiet = ok_quiet why s _ c.in-Ok.gtrid c.in-Ok.ensures.log refl;
      next = c.in-Ok.ensures.value;
      begun = record {
        book = c.in-Ok.ensures.ok;
        follows = record {
          leads = begun_follows s _ c.args.thread c.in-Ok.gtrid c.in-Ok.ensures.allowed c.in-Ok.ensures.value c.in-Ok.ensures.ok refl;
          counted = refl;
          states = λ b. refl;
        };
      };
    }

pub returns-in-Err-clause-begins : goal.returns-in-Err-clause-begins
returns-in-Err-clause-begins g c =
    let s = c.args.self.now in
    let why = begin_refusal s c.args.thread in
    let of_manager = service_refusal_in (book_in s.manager) c.args.thread in
    let is = begin_refusal_is s c.args.thread (sym c.is_over.ensures ∙ c.if-is_over.false) in
    let e = c.in-Err.ensures in
    record {
      rules = err_obeys why of_manager s _ c.in-Err.refusal is refl refl refl e.refused;
      quiet = err_quiet why of_manager s _ c.in-Err.refusal is refl refl refl e.refused e.err e.log;
      next = tt;
      begun = tt;
    }
