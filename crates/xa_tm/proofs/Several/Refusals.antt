-- The refusal of the first of several steps that is refused, each after the ones before it.
use Rattle.std.proofs.Common.{◌≡◌, ℕ, ◌+◌, ◌==◌, ◌<◌, ◌≤◌, List, [], ◌∷◌, ◌++◌, length, take, drop, get_or, Bool, true, false, not, ◌&&◌, ◌||◌, Option, Some, None, is_some, refl, sym, ap, ◌∙◌}
use Rattle.std.specs.Prelude.{if◌then◌else◌, nat_lt}
use Rattle.std.specs.Option.{option_or}
use Rattle.std.proofs.lemmas.Bool.{or_parts}
use Rattle.std.proofs.lemmas.List.{drop_all, drop_more, take_more}
use Rattle.xa_base.specs.Branch.{gtrid_eq}
use Rattle.xa_base.specs.declared.branch.Gtrid.{Gtrid}
use Rattle.xa_base.specs.declared.refusal.Refusal.{Refusal}
use Rattle.xa_base.specs.declared.refusal.Refusal.TheVariants as Refusals
use Rattle.xa_base.specs.declared.step.Outcome.{Outcome}
use Rattle.xa_base.specs.declared.step.Outcome.TheVariants as Outcomes
use Rattle.xa_base.specs.declared.step.Step.TheVariants as Steps
use Rattle.xa_base.proofs.BranchKeys.{gtrid_eq-true}
use Rattle.xa_model.specs.Facts.{has_gtrid}
use Rattle.xa_model.specs.Replies.Steps.{Step}
use Rattle.xa_model.specs.Trace.{Happening, Happening.Decided, Happening.Done}
use Rattle.xa_model.proofs.Replies.Guards.{IsForced, forced_of}
use Rattle.xa_tm.specs.Book.{Book, Waiting, after, voted_yes}
use Rattle.xa_tm.specs.Calls.{IsOpenIn}
use Rattle.xa_tm.specs.Refusing.{is_shut_in, outlived_in, refusal_in, refusal_in_turn, view_in, at_rest, waits_for_none}
use Rattle.xa_tm.proofs.Log.Asks.{is_fault}
use Rattle.xa_tm.proofs.Log.TiedSteps.{done_up}
use Rattle.xa_tm.proofs.Several.Lists.{named_push}

-- the refusal if these have passed, of which each is refused again
abbrev pub turn : (Gtrid → Step) → (Book → Gtrid → Refusal) → Book → (before : List Gtrid) → List Gtrid → Option Refusal
turn step again k before [] = None
turn step again k before (g ∷ gs) =
    if has_gtrid before g then Some (again k g) else option_or (refusal_in k (step g)) (turn step again k (before ++ g ∷ []) gs)

module _ (step : Gtrid → Step) (happening : Gtrid → Happening) (again : Book → Gtrid → Refusal) (k : Book)
    (once : (l : Book) (g h : Gtrid) → refusal_in l (step g) ≡ None
    → refusal_in (after l (happening g)) (step h) ≡ (if gtrid_eq g h then Some (again l h) else refusal_in l (step h)))
    (same : (l : Book) (g h : Gtrid) → again (after l (happening g)) h ≡ again l h) where
  record Passed (before : List Gtrid) (l : Book) : Type 0 where
    refuses : (h : Gtrid) → refusal_in l (step h) ≡ (if has_gtrid before h then Some (again k h) else refusal_in k (step h))
    still : (h : Gtrid) → again l h ≡ again k h

  passed_more : (before : List Gtrid) (l : Book) (g : Gtrid) → refusal_in l (step g) ≡ None → Passed before l
      → Passed (before ++ g ∷ []) (after l (happening g))
  passed_more before l g none p = record {
    refuses = λ h. once l g h none ∙ by h (gtrid_eq g h)
        ∙ sym (ap (λ (t : Bool). if t then Some (again k h) else refusal_in k (step h)) (named_push before g h));
    still = λ h. same l g h ∙ p.still h;
  }
    where
      by : (h : Gtrid) (t : Bool) → (if t then Some (again l h) else refusal_in l (step h))
          ≡ (if t || has_gtrid before h then Some (again k h) else refusal_in k (step h))
      by h true = ap (λ n. Some n) (p.still h)
      by h false = p.refuses h

  turned : (gs before : List Gtrid) (l : Book) → Passed before l → refusal_in_turn step happening l gs ≡ turn step again k before gs
  turned [] before l p = refl
  turned (g ∷ gs) before l p = by (has_gtrid before g) (p.refuses g)
      (λ none. turned gs (before ++ g ∷ []) (after l (happening g)) (passed_more before l g none p))
    where
      rest : Option Refusal
      rest = refusal_in_turn step happening (after l (happening g)) gs

      of_both : (o : Option Refusal) → refusal_in l (step g) ≡ o → (refusal_in l (step g) ≡ None → rest ≡ turn step again k (before ++ g ∷ []) gs)
          → option_or (refusal_in l (step g)) rest ≡ option_or o (turn step again k (before ++ g ∷ []) gs)
      of_both None e f = ap (λ o. option_or o rest) e ∙ f e
      of_both (Some n) e f = ap (λ o. option_or o rest) e

      by : (t : Bool) → refusal_in l (step g) ≡ (if t then Some (again k g) else refusal_in k (step g))
          → (refusal_in l (step g) ≡ None → rest ≡ turn step again k (before ++ g ∷ []) gs)
          → option_or (refusal_in l (step g)) rest
          ≡ (if t then Some (again k g) else option_or (refusal_in k (step g)) (turn step again k (before ++ g ∷ []) gs))
      by true e f = ap (λ o. option_or o rest) e
      by false e f = of_both (refusal_in k (step g)) e f

  pub in_turn : (gs : List Gtrid) → refusal_in_turn step happening k gs ≡ turn step again k [] gs
  in_turn gs = turned gs [] k (record { refuses = λ h. refl; still = λ h. refl })

-- ** one after another

module _ (step : Gtrid → Step) (again : Book → Gtrid → Refusal) (k : Book) (gs : List Gtrid) (i : ℕ) (d : Gtrid) (low : i < length gs) where
  one : turn step again k (take i gs) (drop i gs)
      ≡ (if has_gtrid (take i gs) (get_or gs i d) then Some (again k (get_or gs i d))
      else option_or (refusal_in k (step (get_or gs i d))) (turn step again k (take (i + 1) gs) (drop (i + 1) gs)))
  one =
      ap (turn step again k (take i gs)) (drop_more gs i d low)
      ∙ sym (ap (λ l. if has_gtrid (take i gs) (get_or gs i d) then Some (again k (get_or gs i d))
      else option_or (refusal_in k (step (get_or gs i d))) (turn step again k l (drop (i + 1) gs))) (take_more gs i d low))

  pub turn_named : has_gtrid (take i gs) (get_or gs i d) ≡ true → turn step again k (take i gs) (drop i gs) ≡ Some (again k (get_or gs i d))
  turn_named is = one ∙ ap (λ (t : Bool). if t then Some (again k (get_or gs i d))
      else option_or (refusal_in k (step (get_or gs i d))) (turn step again k (take (i + 1) gs) (drop (i + 1) gs))) is

  pub turn_refused : (o : Option Refusal) → has_gtrid (take i gs) (get_or gs i d) ≡ false → refusal_in k (step (get_or gs i d)) ≡ o
      → turn step again k (take i gs) (drop i gs) ≡ option_or o (turn step again k (take (i + 1) gs) (drop (i + 1) gs))
  turn_refused o is e = one ∙ ap (λ (t : Bool). if t then Some (again k (get_or gs i d))
      else option_or (refusal_in k (step (get_or gs i d))) (turn step again k (take (i + 1) gs) (drop (i + 1) gs))) is
      ∙ ap (λ r. option_or r (turn step again k (take (i + 1) gs) (drop (i + 1) gs))) e

pub turn_end : (step : Gtrid → Step) (again : Book → Gtrid → Refusal) (k : Book) (gs before : List Gtrid) (i : ℕ) → length gs ≤ i
    → turn step again k before (drop i gs) ≡ None
turn_end step again k gs before i past = ap (turn step again k before) (drop_all i gs past)

-- ** no rule tells that the log failed

forced_is_no_fault : (n : Refusal) → IsForced n → is_fault n ≡ false
forced_is_no_fault Refusals.LogFault f = absurd f
forced_is_no_fault _ f = refl

refusal_tells_no_fault : (k : Book) (s : Step) (n : Refusal) → refusal_in k s ≡ Some n → is_fault n ≡ false
refusal_tells_no_fault k s n e = forced_is_no_fault n (forced_of (view_in k) at_rest s n e)

pub turn_tells_no_fault : (step : Gtrid → Step) (happening : Gtrid → Happening) (k : Book) (gs : List Gtrid) (n : Refusal)
    → refusal_in_turn step happening k gs ≡ Some n → is_fault n ≡ false
turn_tells_no_fault step happening k [] n e = absurd (cc)
turn_tells_no_fault step happening k (g ∷ gs) n e =
    by (refusal_in k (step g)) refl e (turn_tells_no_fault step happening (after k (happening g)) gs n)
  where
    by : (o : Option Refusal) → refusal_in k (step g) ≡ o → option_or o (refusal_in_turn step happening (after k (happening g)) gs) ≡ Some n
        → (refusal_in_turn step happening (after k (happening g)) gs ≡ Some n → is_fault n ≡ false) → is_fault n ≡ false
    by None is e rest = rest e
    by (Some m) is e rest = refusal_tells_no_fault k (step g) n (is ∙ e)

-- ** decisions

-- the refusal of a decision
abbrev refused_by : (up begun shut votes : Bool) → Option Refusal
refused_by u b s v = if not u then Some Refusals.ManagerDown
    else (if not b then Some Refusals.UnknownTransaction else (if s then Some Refusals.Decided else (if v then Some Refusals.Votes else None)))

not_refused : (u b s v : Bool) → refused_by u b s v ≡ None → (u ≡ true) × (b ≡ true) × (s ≡ false)
not_refused false b s v e = absurd (cc)
not_refused true false s v e = absurd (cc)
not_refused true true true v e = absurd (cc)
not_refused true true false v e = (refl, refl, refl)

-- decided again
abbrev pub decided_again : Book → Gtrid → Refusal
decided_again k g = Refusals.Decided

module _ (l : Book) (g h : Gtrid) where
  -- whether it is shut after a decision of the other, or of itself
  abbrev shut_by : (outcome : Outcome) (itself : Bool) → Option Waiting → Bool
  shut_by Outcomes.Commit t row =
      (((t || (l.transaction h).committed) || (nat_lt h.incarnation l.incarnation && is_some row))
      || ((l.transaction h).rolled_back || (l.transaction h).handed_over))
      || (not t && (l.transaction h).claimed)
  shut_by Outcomes.Rollback t row =
      (((l.transaction h).committed || (nat_lt h.incarnation l.incarnation && is_some row))
      || ((t || (l.transaction h).rolled_back) || (l.transaction h).handed_over))
      || (not t && (l.transaction h).claimed)

  again_so : (t v : Bool) → gtrid_eq g h ≡ true → l.up ≡ true → (l.transaction g).begun ≡ true → t ≡ true
      → refused_by l.up (l.transaction h).begun t v ≡ Some Refusals.Decided
  again_so t v same up begun shut =
      let begun_too = ap (λ p. (l.transaction p).begun) (sym (gtrid_eq-true g h same)) ∙ begun in λ i. refused_by (up i) (begun_too i) (shut i) v

  or_true : (a : Bool) → (a || true) ≡ true
  or_true true = refl
  or_true false = refl

  decide_commit : refusal_in l (Steps.Decide g Outcomes.Commit) ≡ None
      → refusal_in (after l (Decided g Outcomes.Commit)) (Steps.Decide h Outcomes.Commit)
      ≡ (if gtrid_eq g h then Some Refusals.Decided else refusal_in l (Steps.Decide h Outcomes.Commit))
  decide_commit none =
      let passed = not_refused l.up (l.transaction g).begun (is_shut_in l g) (not ((l.transaction g).unvoted == 0)) none in
      by passed.0 passed.1 (gtrid_eq g h) refl (l.transaction g).has_yes
    where
      by : l.up ≡ true → (l.transaction g).begun ≡ true → (t : Bool) → gtrid_eq g h ≡ t → (y : Bool)
          → refused_by l.up (l.transaction h).begun
          (shut_by Outcomes.Commit t (if y then (if t then Some (voted_yes l g) else l.row h) else l.row h)) (not ((l.transaction h).unvoted == 0))
          ≡ (if t then Some Refusals.Decided else refusal_in l (Steps.Decide h Outcomes.Commit))
      by up begun true same y = again_so _ (not ((l.transaction h).unvoted == 0)) same up begun refl
      by up begun false other true = refl
      by up begun false other false = refl

  decide_rollback : refusal_in l (Steps.Decide g Outcomes.Rollback) ≡ None
      → refusal_in (after l (Decided g Outcomes.Rollback)) (Steps.Decide h Outcomes.Rollback)
      ≡ (if gtrid_eq g h then Some Refusals.Decided else refusal_in l (Steps.Decide h Outcomes.Rollback))
  decide_rollback none =
      let passed = not_refused l.up (l.transaction g).begun (is_shut_in l g) false none in
      by passed.0 passed.1 (gtrid_eq g h) refl
    where
      by : l.up ≡ true → (l.transaction g).begun ≡ true → (t : Bool) → gtrid_eq g h ≡ t
          → refused_by l.up (l.transaction h).begun (shut_by Outcomes.Rollback t (l.row h)) false
          ≡ (if t then Some Refusals.Decided else refusal_in l (Steps.Decide h Outcomes.Rollback))
      by up begun true same = again_so _ false same up begun
          (ap (λ s. s || false) (or_true ((l.transaction h).committed || (nat_lt h.incarnation l.incarnation && is_some (l.row h)))))
      by up begun false other = refl

pub decided_once : (o : Outcome) (l : Book) (g h : Gtrid) → refusal_in l (Steps.Decide g o) ≡ None
    → refusal_in (after l (Decided g o)) (Steps.Decide h o) ≡ (if gtrid_eq g h then Some (decided_again l h) else refusal_in l (Steps.Decide h o))
decided_once Outcomes.Commit l g h none = decide_commit l g h none
decided_once Outcomes.Rollback l g h none = decide_rollback l g h none

-- what is not refused is open
pub decide_open : (o : Outcome) (k : Book) (g : Gtrid) → refusal_in k (Steps.Decide g o) ≡ None → IsOpenIn k g
decide_open Outcomes.Commit k g e =
    let p = not_refused k.up (k.transaction g).begun (is_shut_in k g) (not ((k.transaction g).unvoted == 0)) e in
    let taken = or_parts (((k.transaction g).committed || outlived_in k g) || ((k.transaction g).rolled_back || (k.transaction g).handed_over))
    (k.transaction g).claimed p.2 in
    let parts = or_parts ((k.transaction g).committed || outlived_in k g) ((k.transaction g).rolled_back || (k.transaction g).handed_over) taken.0 in
    record {
      up = p.0;
      begun = p.1;
      uncommitted = (or_parts (k.transaction g).committed (outlived_in k g) parts.0).0;
      not_rolled_back = (or_parts (k.transaction g).rolled_back (k.transaction g).handed_over parts.1).0;
    }
decide_open Outcomes.Rollback k g e =
    let p = not_refused k.up (k.transaction g).begun (is_shut_in k g) false e in
    let taken = or_parts (((k.transaction g).committed || outlived_in k g) || ((k.transaction g).rolled_back || (k.transaction g).handed_over))
    (k.transaction g).claimed p.2 in
    let parts = or_parts ((k.transaction g).committed || outlived_in k g) ((k.transaction g).rolled_back || (k.transaction g).handed_over) taken.0 in
    record {
      up = p.0;
      begun = p.1;
      uncommitted = (or_parts (k.transaction g).committed (outlived_in k g) parts.0).0;
      not_rolled_back = (or_parts (k.transaction g).rolled_back (k.transaction g).handed_over parts.1).0;
    }

-- ** Done

abbrev pub done_again : Book → Gtrid → Refusal
done_again k g = if (k.transaction g).begun then Refusals.NotDecided else Refusals.UnknownTransaction

-- the refusal of Done if the transaction has this row
abbrev done_by : Book → Gtrid → (up begun older : Bool) → Option Waiting → Option Refusal
done_by l h u b older row = if not u then Some Refusals.ManagerDown
    else (if not (b || (older && is_some row)) then Some Refusals.UnknownTransaction
    else (if not (is_some row) then Some Refusals.NotDecided
    else (if not (if b then (l.transaction h).unsettled == 0 else waits_for_none l row) then Some Refusals.Busy else None)))

row_gone : (l : Book) (h : Gtrid) (b older : Bool)
    → done_by l h true b older None ≡ Some (if b then Refusals.NotDecided else Refusals.UnknownTransaction)
row_gone l h true older = refl
row_gone l h false true = refl
row_gone l h false false = refl

pub done_once : (l : Book) (g h : Gtrid) → refusal_in l (Steps.Done g) ≡ None
    → refusal_in (after l (Done g)) (Steps.Done h) ≡ (if gtrid_eq g h then Some (done_again l h) else refusal_in l (Steps.Done h))
done_once l g h none = by (gtrid_eq g h)
  where
    by : (t : Bool) → done_by l h l.up (l.transaction h).begun (nat_lt h.incarnation l.incarnation) (if t then None else l.row h)
        ≡ (if t then Some (done_again l h) else refusal_in l (Steps.Done h))
    by true = ap (λ u. done_by l h u (l.transaction h).begun (nat_lt h.incarnation l.incarnation) None) (done_up l g none)
        ∙ row_gone l h (l.transaction h).begun (nat_lt h.incarnation l.incarnation)
    by false = refl
