-- An answer that is heard, in histories.
use Rattle.std.proofs.Common.{◌≡◌, ℕ, List, [], ◌∷◌, ◌++◌, map, Option, Some, None, refl, sym, ap, ◌∙◌, subst, append_assoc, length}
use Rattle.std.specs.Prelude.{slice_get}
use Rattle.std.specs.Option.{option_map}
use Rattle.std.proofs.lemmas.List.{append-nil, map-append}
use Rattle.xa_base.proofs.Options.{some_is}
use Rattle.xa_base.specs.Answer.{map_answer}
use Rattle.xa_base.specs.Call.{map_call}
use Rattle.xa_base.specs.Xid.{Xid}
use Rattle.xa_base.specs.declared.answer.Answer as Given
use Rattle.xa_base.specs.declared.call.Call as Asking
use Rattle.xa_line.specs.Grid.{HasLine, IsWhole, line_at, with_line}
use Rattle.xa_line.specs.Histories.{LineStands, known as known_call, known_answered}
use Rattle.xa_line.specs.Traffic.{PassesOn, Traffic, answered, answers_heard, calls_issued, with_one_more}
use Rattle.xa_line.proofs.GridLaws.{whole-with_line}
use Rattle.xa_line.proofs.TrafficLaws.{line_goes_on, next_answer_waits, next_call_waits, same_length}
use Rattle.xa_line.proofs.FlowLaws.{all_of-PassesOn}
use Rattle.xa_line.proofs.ChangedLines.{line_stays, lines_with}
use Rattle.xa_model.specs.Facts as facts
use Rattle.xa_model.specs.Protocol.{IsRun, Right}
use Rattle.xa_model.specs.Replies.History.{name_of}
use Rattle.xa_model.specs.Replies.Steps.{accepted}
use Rattle.xa_model.specs.Trace.{Answer as KnownAnswer, Call, Happening.Heard, Happening.Took, Line, Trace, Trace.Then, line}
use Rattle.xa_model.proofs.Keys.{line_eq-refl}
use Rattle.xa_tm.specs.Book.{after}
use Rattle.xa_tm.specs.Calls.{book_in}
use Rattle.xa_session.specs.Following.{LeadsByAnswer}
use Rattle.xa_session.specs.Hearing.{heard_first, with_answer_heard}
use Rattle.xa_session.specs.declared.session.Session.{Session}
use Rattle.xa_session.proofs.Books.{book_goes}
use Rattle.xa_session.proofs.Lines.{MayTell}
use Rattle.xa_session.proofs.LostLines.{up_in}

first_is : {A : Type 0} (xs : List A) (x : A) → slice_get xs 0 ≡ Some x → (rest : List A) × (xs ≡ x ∷ rest)
first_is [] x e = absurd (cc)
first_is (y ∷ ys) x e = (ys, ap (λ z. z ∷ ys) (some_is y x e))

-- if no answer waits, each was heard
none_unheard : (tr : Trace) (l : Line) (at : Traffic) → LineStands tr l at → at.answers.waiting ≡ []
    → length (facts.heard tr l) ≡ length (facts.taken tr l)
none_unheard tr l at stands none =
    sym (same_length known_answered (answers_heard at) (facts.heard tr l) stands.all_heard)
    ∙ ap length (sym (append-nil (answers_heard at)) ∙ ap (λ ws. answers_heard at ++ ws) (sym none))
    ∙ same_length known_answered (answered at) (facts.taken tr l) stands.all_answered

some_seen : {A : Type 0} (o : Option A) (x : A) → Some (Some x) ≡ option_map Some o → o ≡ Some x
some_seen None x e = absurd (cc)
some_seen (Some y) x e = sym (some_is (Some x) (Some y) e)

-- the line while the answer waits, and once it is heard
abbrev answered_mid : Traffic → Asking.Call Xid → List (Asking.Call Xid) → Given.Answer Xid → Traffic
answered_mid at call rest answer = record {
  calls = record { gone = at.calls.gone ++ call ∷ []; waiting = rest };
  answers = with_one_more at.answers (call, answer);
}

module _ (tr : Trace) (l : Line) (k : Call) (call : Asking.Call Xid) (answer : Given.Answer Xid) (rest : List (Asking.Call Xid)) (at : Traffic)
    (stands : LineStands tr l at) (is : known_call call ≡ Some k) (waits : at.calls.waiting ≡ call ∷ rest) (none : at.answers.waiting ≡ []) where
  abbrev given : KnownAnswer
  given = map_answer name_of answer

  abbrev mid : Traffic
  mid = answered_mid at call rest answer

  passes : PassesOn at.calls call mid.calls
  passes = record { oldest = waits; through = refl }

  pub took_line : LineStands (Then tr (Took l k given)) l mid
  took_line =
      line_goes_on tr (Took l k given) l at mid [] ((call, answer) ∷ []) [] stands refl
      (all_of-PassesOn at.calls call mid.calls passes ∙ sym (append-nil (calls_issued at))) refl
      (sym (append_assoc (answers_heard at) at.answers.waiting ((call, answer) ∷ []))) (rw (is, line_eq-refl l) refl)
      (sym (append-nil (answers_heard at))) refl
      (ap (λ xs. xs ++ call ∷ []) stands.each_answered
      ∙ sym (ap (map (λ p. p.0)) (sym (append_assoc (answers_heard at) at.answers.waiting ((call, answer) ∷ []))) ∙ map-append (λ p. p.0) (answered at)
      ((call, answer) ∷ [])))

  pub waits_answered : facts.next_answer (Then tr (Took l k given)) l ≡ Some (k, given)
  waits_answered =
      some_seen _ _ (sym (ap (λ ws. option_map known_answered (slice_get (ws ++ (call, answer) ∷ []) 0)) none ∙ ap (λ o. Some (option_map (λ c.
      (c, given)) o)) is)
      ∙ next_answer_waits (Then tr (Took l k given)) l mid took_line)

  pub heard_line : LineStands (Then (Then tr (Took l k given)) (Heard l k given)) l (heard_first at (call ∷ rest) answer)
  heard_line =
      let after = heard_first at (call ∷ rest) answer in
      let passed : PassesOn mid.answers (call, answer) after.answers = record { oldest = ap (λ ws. ws ++ (call, answer) ∷ []) none; through = refl } in
      line_goes_on (Then tr (Took l k given)) (Heard l k given) l mid after [] [] ((call, answer) ∷ []) took_line refl
      (sym (append-nil (calls_issued mid))) refl
      (all_of-PassesOn mid.answers (call, answer) after.answers passed ∙ sym (append-nil (answered mid))) refl
      refl (rw (is, line_eq-refl l) refl)
      (took_line.each_answered ∙ ap (map (λ q. q.0)) (sym (all_of-PassesOn mid.answers (call, answer) after.answers passed)))

module _ {L : Type 0} (old new : Session L) (t r : ℕ) (call : Asking.Call Xid) (k : Call) (answer : Given.Answer Xid) where
  abbrev told : KnownAnswer
  told = map_answer name_of answer

  pub answered_follows : MayTell old t r → slice_get (line_at old.lines t r).calls.waiting 0 ≡ Some call → accepted (map_call name_of call) ≡ Some k
      → (line_at old.lines t r).answers.waiting ≡ [] → book_in new.manager ≡ after (book_in old.manager) (Heard (line t r) k told)
      → new.lines ≡ with_line old.lines t r (with_answer_heard (line_at old.lines t r) answer) → LeadsByAnswer (line t r) k told old new
  answered_follows may first is none book lines tr stands =
      let l = line t r in
      let at = line_at old.lines t r in
      let took = Took l k told in
      let e = Heard l k told in
      let here = stands.lines t r may.has in
      let head = first_is at.calls.waiting call first in
      let next : facts.next_call tr l ≡ Some k =
      some_seen _ _ (sym (ap (option_map known_call) first ∙ ap (λ o. Some o) is) ∙ next_call_waits tr l at here) in (
        record { is_up = up_in old new t r tr stands may.up; first = next; none_unheard = none_unheard tr l at here none },
        λ sound.
            let right : Right (Then tr took) e = (up_in old new t r tr stands may.up, waits_answered tr l k call answer head.0 at here is head.1 none) in
            let run : IsRun (Then tr took) = (stands.run, (next, sound)) in
            let put : LineStands (Then (Then tr took) e) l (with_answer_heard at answer) =
            subst (λ ws. LineStands (Then (Then tr took) e) l (heard_first at ws answer)) (sym head.1)
            (heard_line tr l k call answer head.0 at here is head.1 none) in
            let stand = lines_with (Then (Then tr took) e) old.lines t r (with_answer_heard at answer) stands.whole may.has put
            (λ u q has_u apart. line_stays (Then tr took) e (line u q) (line_at old.lines u q) refl refl refl (rw apart refl)
            (line_stays tr took (line u q) (line_at old.lines u q) refl refl (rw apart refl) refl (stands.lines u q has_u))) in (
              right,
              record {
                run = (run, right);
                apart = stands.apart;
                threads = ap (λ g. g.threads) lines ∙ stands.threads;
                rms = ap (λ g. g.rms) lines ∙ stands.rms;
                whole = subst IsWhole (sym lines) (whole-with_line old.lines t r (with_answer_heard at answer) stands.whole);
                rms_up = λ q. stands.rms_up q;
                book = book_goes (Then tr took) (book_in old.manager) stands.book e _ run right stands.apart tt book;
                lines =
                    λ u q has. subst (λ g. LineStands (Then (Then tr took) e) (line u q) (line_at g u q)) (sym lines) (stand u q (subst
                    (λ g. HasLine g u q) lines has));
              },
            ),
      )
