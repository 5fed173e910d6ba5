-- Steps of a session that are taken in turn.
use Rattle.std.proofs.Common.{◌≡◌, List, [], ◌∷◌, map, None, refl}
use Rattle.xa_base.specs.declared.branch.Gtrid.{Gtrid}
use Rattle.xa_base.specs.declared.reply.Reply.TheVariants as Replies
use Rattle.xa_base.specs.declared.step.Outcome.{Outcome}
use Rattle.xa_base.specs.declared.step.Step.TheVariants as Steps
use Rattle.xa_line.specs.Grid.{Grid}
use Rattle.xa_model.specs.Protocol.{Right}
use Rattle.xa_model.specs.Replies.Steps.{Step}
use Rattle.xa_model.specs.Trace.{Happening, Happening.Decided, Happening.Done, Trace, Trace.Then}
use Rattle.xa_tm.specs.Book.{after, after_all, Book}
use Rattle.xa_tm.specs.Calls.{book_in}
use Rattle.xa_tm.specs.Refusing.{refusal_in, refusal_in_turn}
use Rattle.xa_session.specs.Following.{AreRight, LeadsTo, then_all}
use Rattle.xa_session.specs.Headroom.{MayHappen}
use Rattle.xa_session.specs.declared.session.Session.{Session}
use Rattle.xa_session.proofs.Following.{StandsWith, own_decided, own_done, own_goes, own_right, stands_in, stands_with}
use Rattle.xa_session.proofs.Headroom.{MayHappenInTurn}
use Rattle.xa_session.proofs.Lines.{none_first, none_second}
use Rattle.xa_session.proofs.Refusals.{begun_if_decided}

module _ (step : Gtrid → Step) (does : Gtrid → Happening) where
  -- what isn't refused is right, and the session then stands where it leads
  abbrev GoesOn : Type 0
  GoesOn =
      (tr : Trace) (k : Book) (grid : Grid) (g : Gtrid) → StandsWith tr k grid → refusal_in k (step g) ≡ None
      → Right tr (does g) × StandsWith (Then tr (does g)) (after k (does g)) grid

  pub all_go_on : GoesOn → (gs : List Gtrid) (tr : Trace) (k : Book) (grid : Grid) → StandsWith tr k grid
      → refusal_in_turn step does k gs ≡ None
      → AreRight tr (map does gs) × StandsWith (then_all tr (map does gs)) (after_all k (map does gs)) grid
  all_go_on one [] tr k grid stands none = (tt, stands)
  all_go_on one (g ∷ gs) tr k grid stands none =
      let now = one tr k grid g stands (none_first _ _ none) in
      let others = all_go_on one gs (Then tr (does g)) (after k (does g)) grid now.1 (none_second _ _ none) in
      ((now.0, others.0), others.1)

  pub all_lead : {L : Type 0} (old new : Session L) → GoesOn → (gs : List Gtrid) → refusal_in_turn step does (book_in old.manager) gs ≡ None
      → book_in new.manager ≡ after_all (book_in old.manager) (map does gs) → new.lines ≡ old.lines → LeadsTo (map does gs) old new
  all_lead old new one gs none book same tr stands =
      let go = all_go_on one gs tr (book_in old.manager) old.lines (stands_with tr old stands) none in
      (go.0, stands_in (then_all tr (map does gs)) new _ old.lines book same go.1)

  -- what isn't refused may happen
  pub all_may : ((k : Book) (g : Gtrid) → refusal_in k (step g) ≡ None → MayHappen k (does g)) → (gs : List Gtrid) (k : Book)
      → refusal_in_turn step does k gs ≡ None → MayHappenInTurn k (map does gs)
  all_may one [] k none = tt
  all_may one (g ∷ gs) k none = (one k g (none_first _ _ none), all_may one gs (after k (does g)) (none_second _ _ none))

-- ** decisions

pub decision_goes_on : (o : Outcome) → GoesOn (λ g. Steps.Decide g o) (λ g. Decided g o)
decision_goes_on o tr k grid g stands none =
    let right = own_right (Steps.Decide g o) Replies.Decided tt (λ tr. refl) tr k grid stands none refl in
    (right, own_goes tr (Decided g o) k grid stands right (own_decided tr g o) (begun_if_decided k g o none))

pub decisions_lead : {L : Type 0} (old new : Session L) (o : Outcome) (gs : List Gtrid)
    → refusal_in_turn (λ g. Steps.Decide g o) (λ g. Decided g o) (book_in old.manager) gs ≡ None
    → book_in new.manager ≡ after_all (book_in old.manager) (map (λ g. Decided g o) gs) → new.lines ≡ old.lines
    → LeadsTo (map (λ g. Decided g o) gs) old new
decisions_lead old new o gs none book lines =
    all_lead (λ g. Steps.Decide g o) (λ g. Decided g o) old new (decision_goes_on o) gs none book lines

pub decisions_may : (o : Outcome) (gs : List Gtrid) (k : Book) → refusal_in_turn (λ g. Steps.Decide g o) (λ g. Decided g o) k gs ≡ None
    → MayHappenInTurn k (map (λ g. Decided g o) gs)
decisions_may o gs k none = all_may (λ g. Steps.Decide g o) (λ g. Decided g o) (λ k g none. begun_if_decided k g o none) gs k none

-- ** what is done

pub done_goes_on : GoesOn Steps.Done Done
done_goes_on tr k grid g stands none =
    let right = own_right (Steps.Done g) Replies.Noted tt (λ tr. refl) tr k grid stands none refl in
    (right, own_goes tr (Done g) k grid stands right (own_done tr g) tt)

pub done_lead : {L : Type 0} (old new : Session L) (gs : List Gtrid) → refusal_in_turn Steps.Done Done (book_in old.manager) gs ≡ None
    → book_in new.manager ≡ after_all (book_in old.manager) (map Done gs) → new.lines ≡ old.lines → LeadsTo (map Done gs) old new
done_lead old new gs none book lines = all_lead Steps.Done Done old new done_goes_on gs none book lines

pub done_may : (gs : List Gtrid) (k : Book) → refusal_in_turn Steps.Done Done k gs ≡ None → MayHappenInTurn k (map Done gs)
done_may gs k none = all_may Steps.Done Done (λ k g none. tt) gs k none
