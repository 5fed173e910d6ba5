use Rattle.std.proofs.Common.{◌∙◌, ap, refl, sym}
use Rattle.xa_base.specs.declared.step.Outcome.TheVariants as Outcomes
use Rattle.xa_base.specs.declared.step.Step.TheVariants as Steps
use Rattle.xa_model.specs.Trace.{Happening.Decided}
use Rattle.xa_tm.specs.Book.{Doubt.NoDoubt}
use Rattle.xa_tm.specs.Calls.{book_in}
use Rattle.xa_tm.specs.Refusing.{refusal_in}
use Rattle.xa_session.proofs.Following.{abandoned_follows}
use Rattle.xa_session.proofs.Refusals.{begun_if_abandoned}
use Rattle.xa_session.proofs.Sessions.{has_few, refusal_is, refused_or, same_leaves, sized_by, step_leaves}
use Rattle.xa_session.proofs.Logging.{quiet_keeps, same_abandoned, same_book}
use Rattle.xa_session.proofs.StepLemmas.{err_obeys, err_quiet, ok_obeys, ok_quiet}
use Rattle.xa_session.specs.Session.{refusal_at}
use Rattle.xa_session.proofs.session.Session.abandon.Goals as goal

pub returns-in-Ok-clause-ready : goal.returns-in-Ok-clause-ready
returns-in-Ok-clause-ready g c =
    let s = c.args.self.now in
    step_leaves s _ NoDoubt (Decided c.args.gtrid Outcomes.Rollback) c.requires (has_few s (sym c.is_over.ensures ∙ c.if-is_over.false))
    (begun_if_abandoned (book_in c.args.self.now.manager) c.args.gtrid c.in-Ok.ensures.allowed) refl c.in-Ok.ensures.ok c.requires.heard

pub returns-in-Err-clause-ready : goal.returns-in-Err-clause-ready
returns-in-Err-clause-ready g c =
    let s = c.args.self.now in
    same_leaves s _ c.requires refl
    (refused_or (refusal_in (book_in s.manager) (Steps.Abandon c.args.gtrid)) _ _
    (λ n is. ap book_in (c.in-Err.ensures.refused n is).1) (λ none. (c.in-Err.ensures.err none).1)) refl

pub returns-in-Ok-clause-keeps : goal.returns-in-Ok-clause-keeps
returns-in-Ok-clause-keeps g c =
    let s = c.args.self.now in
    quiet_keeps g.L.DecisionLog.moment s.manager c.abandon.new.self c.in-Ok.ensures.log
    (same_abandoned (book_in s.manager) (book_in c.abandon.new.self) c.args.gtrid c.in-Ok.ensures.ok)

pub returns-in-Err-clause-keeps : goal.returns-in-Err-clause-keeps
returns-in-Err-clause-keeps g c =
    let s = c.args.self.now in
    quiet_keeps g.L.DecisionLog.moment s.manager c.abandon.new.self c.in-Err.ensures.log
    (same_book (book_in s.manager) (book_in c.abandon.new.self)
    (refused_or (refusal_in (book_in s.manager) (Steps.Abandon c.args.gtrid)) _ _
    (λ n is. ap book_in (c.in-Err.ensures.refused n is).1) (λ none. (c.in-Err.ensures.err none).1)))

pub invariant_of-self-in-Err-1 : goal.invariant_of-self-in-Err-1
invariant_of-self-in-Err-1 g c =
    let s = c.args.self.now in
    record {
      sized = sized_by s (book_in c.abandon.new.self)
          (refused_or (refusal_in (book_in s.manager) (Steps.Abandon c.args.gtrid)) _ _
          (λ n is. ap book_in (c.in-Err.ensures.refused n is).1) (λ none. (c.in-Err.ensures.err none).1));
    }

pub returns-in-Ok-clause-abandons : goal.returns-in-Ok-clause-abandons
returns-in-Ok-clause-abandons g c =
    let s = c.args.self.now in
    let why = refusal_at s (Steps.Abandon c.args.gtrid) in
    let is = refusal_is s (Steps.Abandon c.args.gtrid) (sym c.is_over.ensures ∙ c.if-is_over.false) in
    record {
      rules = ok_obeys why s _ tt (is ∙ c.in-Ok.ensures.allowed);
      quiet = ok_quiet why s _ tt c.in-Ok.ensures.log refl;
      decided = record {
        book = c.in-Ok.ensures.ok;
        follows = record { leads = abandoned_follows s _ c.args.gtrid c.in-Ok.ensures.allowed c.in-Ok.ensures.ok refl; counted = refl; states = λ b. refl };
      };
    }

pub returns-in-Err-clause-abandons : goal.returns-in-Err-clause-abandons
returns-in-Err-clause-abandons g c =
    let s = c.args.self.now in
    let why = refusal_at s (Steps.Abandon c.args.gtrid) in
    let of_manager = refusal_in (book_in s.manager) (Steps.Abandon c.args.gtrid) in
    let is = refusal_is s (Steps.Abandon c.args.gtrid) (sym c.is_over.ensures ∙ c.if-is_over.false) in
    let e = c.in-Err.ensures in
    record {
      rules = err_obeys why of_manager s _ c.in-Err.refusal is refl refl refl e.refused;
      quiet = err_quiet why of_manager s _ c.in-Err.refusal is refl refl refl e.refused e.err e.log;
      decided = tt;
    }
