-- The headline of all events behind a history, where that history with them is right.
use Rattle.std.proofs.Common.{◌≡◌, List, [], ◌∷◌, ◌++◌, map, refl, sym, ap, subst}
use Rattle.xa_base.specs.declared.reply.Event.{Event}
use Rattle.xa_model.specs.Facts.{standing}
use Rattle.xa_model.specs.Promises.Agreement.{AsLogged, IsCommitment, IsFinal, IsMoment, followed_by}
use Rattle.xa_model.specs.Promises.Commitment.{phase_of}
use Rattle.xa_model.specs.Promises.Headline.{HeadlineSince}
use Rattle.xa_model.specs.Protocol.{AllRight}
use Rattle.xa_model.specs.Replies.History.{and_then, happening_of}
use Rattle.xa_model.specs.Trace.{Branch, Happening, Trace, Trace.Then}
use Rattle.xa_model.proofs.AgreementLemmas.Alike.{are_alike, held, as_logged, doubt_is_down}
use Rattle.xa_model.proofs.AgreementLemmas.Ends.{ends_once, final}
use Rattle.xa_model.proofs.AgreementLemmas.Prefix.{prefix, closes_last}
use Rattle.xa_model.proofs.AgreementLemmas.Simulation.{commitment}
use Rattle.xa_model.proofs.Invariant.AtEachMoment.{commit_has_row, rollback_has_no_row, no_start_after_commit, rows_were_prepared, settled_is_over, fresh_gtrids, handed_over_alone, claimed_is_prepared}
use Rattle.xa_model.proofs.Invariant.Preservation.{always, run_of}
use Rattle.xa_model.proofs.RecoveryLemmas.RecoveredStart.{origin_right}

-- the beginnings of a right history are right
right_start : (tr : Trace) (later : List Event) → AllRight (and_then tr later) → AllRight tr
right_start tr [] r = r
right_start tr (e ∷ later) r = (right_start (Then tr (happening_of e)) later r).0

right_first : (tr : Trace) (before later : List Event) → AllRight (and_then tr (before ++ later)) → AllRight (and_then tr before)
right_first tr [] later r = right_start tr later r
right_first tr (e ∷ before) later r = right_first (Then tr (happening_of e)) before later r

-- each event is a moment of the whole
followed_events : (tr : Trace) (later : List Event) → followed_by tr (map happening_of later) ≡ and_then tr later
followed_events tr [] = refl
followed_events tr (e ∷ later) = followed_events (Then tr (happening_of e)) later

moment_of : (tr : Trace) (before later : List Event) (e : Event) → IsMoment (and_then tr before) (happening_of e) (and_then tr (before ++ e ∷ later))
moment_of tr [] later e = (map happening_of later, followed_events (Then tr (happening_of e)) later)
moment_of tr (x ∷ before) later e = moment_of (Then tr (happening_of x)) before later e

final_since : (tr : Trace) (e : Happening) (whole : Trace) (b : Branch) → AllRight whole → IsMoment tr e whole → IsFinal (standing tr b)
    → standing whole b ≡ standing tr b
final_since tr e whole b r m f = subst (λ x. AllRight x → standing x b ≡ standing tr b) m.1 (λ h. final tr (e ∷ m.0) b h f) r

commitment_since : (tr : Trace) (e : Happening) (whole : Trace) → AllRight whole → IsMoment tr e whole → IsCommitment tr e whole
commitment_since tr e whole r m = subst (λ x. AllRight x → IsCommitment tr e x) m.1 (λ h. commitment tr e m.0 h) r

logged_since : (tr : Trace) (e : Happening) (whole : Trace) → AllRight whole → IsMoment tr e whole → AsLogged tr e whole
logged_since tr e whole r m = subst (λ x. AllRight x → AsLogged tr e x) m.1 (λ h. as_logged tr e m.0 h) r

pub headline_since : (start : Trace) (events : List Event) → AllRight (and_then start events) → HeadlineSince start events
headline_since start events whole = record {
  prefix = λ before later is l. prefix _ l (right before later is);
  nothing_after_close = λ before later is l. closes_last _ l (right before later is);
  ends_once = λ before later is b. ends_once _ b (right before later is);
  stays_ended = λ before later e is b. final_since _ _ _ b whole (moment before later e is);
  alike = λ before later is. are_alike _ (right before later is);
  at_first = λ b. ap phase_of ((origin_right start (right_start start events whole)).clear b);
  commitment = λ before later e is. commitment_since _ _ _ whole (moment before later e is);
  heuristics = λ before later is. held _ (right before later is);
  logged = λ before later e is. logged_since _ _ _ whole (moment before later e is);
  doubt = λ before later is. doubt_is_down _ (right before later is);
  commit_has_row = λ before later is. commit_has_row _ (always _ (right before later is));
  rollback_has_no_row = λ before later is. rollback_has_no_row _ (always _ (right before later is));
  no_start_after_commit = λ before later is. no_start_after_commit _ (always _ (right before later is));
  rows_were_prepared = λ before later is. rows_were_prepared _ (always _ (right before later is));
  settled_is_over = λ before later is. settled_is_over _ (always _ (right before later is));
  fresh_gtrids = λ before later is. fresh_gtrids _ (always _ (right before later is));
  handed_over_alone = λ before later is. handed_over_alone _ (run_of _ (right before later is)) (always _ (right before later is));
  claimed_is_prepared = λ before later is. claimed_is_prepared _ (always _ (right before later is));
}
  where
    right : (before later : List Event) → before ++ later ≡ events → AllRight (and_then start before)
    right before later is = right_first start before later (subst (λ all. AllRight (and_then start all)) (sym is) whole)

    moment : (before later : List Event) (e : Event) → before ++ e ∷ later ≡ events → IsMoment (and_then start before) (happening_of e) (and_then start events)
    moment before later e is = subst (λ all. IsMoment (and_then start before) (happening_of e) (and_then start all)) is (moment_of start before later e)
