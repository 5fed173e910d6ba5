use Rattle.std.proofs.Common.{◌≡◌, ◌∷◌, ◌++◌, List, sym, subst}
use Rattle.xa_model.specs.Promises.Agreement.{IsMoment}
use Rattle.xa_model.specs.Replies.History.{AreAllowed, happening_of, history}
use Rattle.xa_model.specs.Protocol.{AllRight}
use Rattle.xa_base.specs.declared.reply.Event.{Event}
use Rattle.xa_model.proofs.headline.headline_holds.Goals as goal

pub returns : goal.returns
returns c o events start allowed = record {
  prefix = λ before later is l. c.agreement.ensures.prefix _ l (right before later is);
  nothing_after_close = λ before later is l. c.agreement.ensures.nothing_after_close _ l (right before later is);
  ends_once = λ before later is b. c.agreement.ensures.ends_once _ b (right before later is);
  stays_ended = λ before later e is b. c.agreement.ensures.stays_ended _ _ _ b whole (moment before later e is);
  alike = λ before later is. c.agreement.ensures.alike _ (right before later is);
  at_first = λ b. c.agreement.ensures.at_first o b start;
  commitment = λ before later e is. c.agreement.ensures.commitment _ _ _ whole (moment before later e is);
  heuristics = λ before later is. c.agreement.ensures.heuristics _ (right before later is);
  logged = λ before later e is. c.agreement.ensures.logged _ _ _ whole (moment before later e is);
  doubt = λ before later is. c.agreement.ensures.doubt _ (right before later is);
  commit_has_row = λ before later is. c.agreement_invariant.ensures.commit_has_row _ (right before later is);
  rollback_has_no_row = λ before later is. c.agreement_invariant.ensures.rollback_has_no_row _ (right before later is);
  no_start_after_commit = λ before later is. c.agreement_invariant.ensures.no_start_after_commit _ (right before later is);
  rows_were_prepared = λ before later is. c.agreement_invariant.ensures.rows_were_prepared _ (right before later is);
  settled_is_over = λ before later is. c.agreement_invariant.ensures.settled_is_over _ (right before later is);
  fresh_gtrids = λ before later is. c.agreement_invariant.ensures.fresh_gtrids _ (right before later is);
  handed_over_alone = λ before later is. c.agreement_invariant.ensures.handed_over_alone _ (right before later is);
  claimed_is_prepared = λ before later is. c.agreement_invariant.ensures.claimed_is_prepared _ (right before later is);
}
  where
    whole : AllRight (history o events)
    whole = c.replies_are_allowed.ensures.events o events start allowed

    -- each beginning of the events is a right history
    right : (before later : List Event) → before ++ later ≡ events → AllRight (history o before)
    right before later is =
        c.replies_are_allowed.ensures.events o before start
        (c.one_more_event.ensures.before o before later (subst (AreAllowed o) (sym is) allowed))

    -- each event is a moment of the whole
    moment : (before later : List Event) (e : Event) → before ++ e ∷ later ≡ events → IsMoment (history o before) (happening_of e) (history o events)
    moment before later e is =
        subst (λ all. IsMoment (history o before) (happening_of e) (history o all)) is (c.one_more_event.ensures.moment o before later e)
