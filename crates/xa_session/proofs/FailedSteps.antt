-- A start over the log of a session that failed in a step finds what the session left in it.
use Rattle.std.proofs.Common.{◌≡◌, ◌⊎◌, List, [], ◌∷◌, inl, inr, Bool, true, false, refl, sym, ap, ◌∙◌, subst}
use Rattle.std.specs.Prelude.{◌&&◌, ◌||◌, not, cond, filter, if◌then◌else◌, Option, Some, None}
use Rattle.xa_base.specs.Branch.{gtrid_eq}
use Rattle.xa_base.specs.declared.branch.Gtrid.{Gtrid}
use Rattle.xa_base.specs.declared.step.Outcome.TheVariants as Outcomes
use Rattle.xa_base.specs.declared.step.Step.TheVariants as Steps
use Rattle.xa_base.proofs.BranchKeys.{gtrid_eq-refl, gtrid_eq-true}
use Rattle.xa_line.specs.Grid.{Grid}
use Rattle.xa_model.specs.Facts.{begun, claimed, decided_so, handed_over, has_gtrid}
use Rattle.xa_model.specs.Facts.Distinct.{EachOnce}
use Rattle.xa_model.specs.Protocol.{AllHaveVoted, RightDecision, RightFault, RightRow}
use Rattle.xa_model.specs.Trace.{Fault.InDecide, Fault.InDone, Happening.Decided, Happening.Failed, Origin, Trace, Trace.Then}
use Rattle.xa_monitor.specs.Seen.{Seen}
use Rattle.xa_monitor.specs.Sessions.{MayFail}
use Rattle.xa_tm.proofs.History.Recovery.{decision_asks}
use Rattle.xa_tm.proofs.Release.{wholes_follow}
use Rattle.xa_tm.proofs.Several.Lists.{gtrid_away, named_filter}
use Rattle.xa_tm.specs.Book.{Book, Doubt.Adds, Doubt.Drops, Doubt.NoDoubt, Waiting, after, book_of, doubt_of_happening, rows_for, voted_yes}
use Rattle.xa_tm.specs.Calls.{book_in, written_by}
use Rattle.xa_tm.specs.InTurn as turns
use Rattle.xa_tm.specs.Refusing.{refusal_in}
use Rattle.xa_session.specs.Following.{StandsIn}
use Rattle.xa_session.specs.Tracking.{IsFailedStep, KeepsTrack}
use Rattle.xa_session.specs.declared.session.Session.{Session}
use Rattle.xa_session.proofs.Following.{StandsWith, stands_with}
use Rattle.xa_session.proofs.Lines.{none_first, none_second}
use Rattle.xa_session.proofs.Refusals.{begun_if_decided}
use Rattle.xa_session.proofs.Turns.{decision_goes_on, done_goes_on}
use Rattle.std.proofs.lemmas.Bool.{true≢false}
use Rattle.xa_base.specs.declared.reply.Reply.TheVariants as Replies
use Rattle.xa_base.specs.declared.step.Outcome.{Outcome}
use Rattle.xa_model.proofs.Invariant.RowLists.{without_keeps}
use Rattle.xa_model.proofs.ProcessLemmas.Joining.{each_once}
use Rattle.xa_model.specs.Facts.{each_of_some, has_row, is_older, is_settled_lately, lists_row, log, participants_in, without}
use Rattle.xa_model.specs.Protocol.{IsRowSettled, RightDone}
use Rattle.xa_model.specs.Trace.{Happening.Done, Row}
use Rattle.xa_session.proofs.Following.{own_right}
use Rattle.xa_session.proofs.NextStarts.{finds_failed}
use Rattle.xa_session.proofs.Refusals.{begun_if_settled}

-- ** decisions to commit

picked : (y z t : Bool) (v w : Waiting) (r q : Option Waiting) → y ≡ true → z ≡ true → t ≡ true
    → (if y then (if t then Some v else r) else r) ≡ (if z then (if t then Some w else q) else q) → v ≡ w
picked true true true v w r q a b d e = cc
picked true true false v w r q a b d e = absurd (cc)
picked true false t v w r q a b d e = absurd (cc)
picked false z t v w r q a b d e = absurd (cc)

-- none of these is that transaction
none_same : (g : Gtrid) (gs : List Gtrid) → EachOnce (λ h. gtrid_eq h g ≡ false) gs → has_gtrid gs g ≡ false
none_same g [] h = refl
none_same g (x ∷ xs) h = λ i. h.0 i || none_same g xs h.2 i

-- those that pass a test
each_chosen : (P : Gtrid → Type 0) (p : Gtrid → Bool) (gs : List Gtrid) → EachOnce P gs → EachOnce (λ g. P g × (p g ≡ true)) (filter p gs)
each_chosen P p [] h = tt
each_chosen P p (g ∷ gs) h = by (p g) refl (each_chosen P p gs h.2)
  where
    by : (t : Bool) → p g ≡ t → EachOnce (λ x. P x × (p x ≡ true)) (filter p gs)
        → EachOnce (λ x. P x × (p x ≡ true)) (cond t (g ∷ filter p gs) (filter p gs))
    by true e rest = ((h.0, e), named_filter p gs g h.1, rest)
    by false e rest = rest

-- a decision that is right after another was right before it, and is of another transaction
live_back : (b x c r h : Bool) → (b && not ((x || c) || (r || h))) ≡ true → (x ≡ false) × ((b && not (c || (r || h))) ≡ true)
live_back true false c r h e = (refl, e)
live_back true true c r h e = absurd (cc)
live_back false x c r h e = absurd (cc)

claim_back : (x c : Bool) → (not x && c) ≡ true → c ≡ true
claim_back false c e = e
claim_back true c e = absurd (cc)

decided_back : (tr : Trace) (h g : Gtrid) → RightDecision (Then tr (Decided h Outcomes.Commit)) g Outcomes.Commit
    → RightDecision tr g Outcomes.Commit × (gtrid_eq g h ≡ false)
decided_back tr h g r =
    let live_so = live_back (begun tr g) (gtrid_eq h g) (decided_so Outcomes.Commit tr g) (decided_so Outcomes.Rollback tr g) (handed_over tr g) r.is_live in
    (record { is_up = r.is_up; is_live = live_so.1; votes = λ q. by (r.votes q) }, gtrid_away h g live_so.0)
  where
    by : AllHaveVoted (Then tr (Decided h Outcomes.Commit)) g ⊎ (claimed (Then tr (Decided h Outcomes.Commit)) g ≡ true)
        → AllHaveVoted tr g ⊎ (claimed tr g ≡ true)
    by (inl v) = inl v
    by (inr c) = inr (claim_back (gtrid_eq h g) (claimed tr g) c)

-- the transaction may be committed, and is begun
abbrev MayCommit : Trace → Book → Gtrid → Type 0
MayCommit tr k g = RightDecision tr g Outcomes.Commit × ((k.transaction g).begun ≡ true)

each_may : (gs : List Gtrid) (tr : Trace) (k : Book) (grid : Grid) → StandsWith tr k grid → turns.decide_refusal Outcomes.Commit k gs ≡ None
    → EachOnce (MayCommit tr k) gs
each_may [] tr k grid stands none = tt
each_may (g ∷ gs) tr k grid stands none =
    let first = none_first _ _ none in
    let now = decision_goes_on Outcomes.Commit tr k grid g stands first in
    let rest = each_may gs (Then tr (Decided g Outcomes.Commit)) (after k (Decided g Outcomes.Commit)) grid now.1 (none_second _ _ none) in
    let back = λ (h : Gtrid) (x : MayCommit (Then tr (Decided g Outcomes.Commit)) (after k (Decided g Outcomes.Commit)) h). decided_back tr g h x.0 in (
      (now.0, begun_if_decided k g Outcomes.Commit first),
      none_same g gs (each_once _ (λ h. gtrid_eq h g ≡ false) (λ h x. (back h x).1) gs rest),
      each_once _ (MayCommit tr k) (λ h x. ((back h x).0, x.1)) gs rest,
    )

module _ {L : Type 0} (s : Session L) where
  abbrev k : Book
  k = book_in s.manager

  module _ (tr : Trace) (stands : StandsIn tr s) where
    -- the transaction may be committed, and a yes of it was heard
    abbrev IsWritten : Gtrid → Type 0
    IsWritten g = MayCommit tr k g × ((k.transaction g).has_yes ≡ true)

    -- it isn't one of those that were released
    kept : (g : Gtrid) → (k.transaction g).begun ≡ true → stands.book.0 g ≡ false
    kept g begun_so = by (stands.book.0 g) refl
      where
        clash : {t : Bool} → t ≡ true → t ≡ false → ⊥
        clash p q = cc

        by : (t : Bool) → stands.book.0 g ≡ t → t ≡ false
        by true e = absurd (clash begun_so (stands.book.1.unbegun g e))
        by false e = refl

    told : (g : Gtrid) → IsWritten g → ((book_of tr).transaction g).has_yes ≡ true
    told g w = ap (λ t. t.has_yes) (stands.book.1.transactions g (kept g w.0.1)) ∙ w.1

    same_voters : (g : Gtrid) → IsWritten g → voted_yes (book_of tr) g ≡ voted_yes k g
    same_voters g w =
        let behind = wholes_follow stands.book.0 (book_of tr) k NoDoubt (Decided g Outcomes.Commit) stands.book.1 w.0.1 in
        picked ((book_of tr).transaction g).has_yes (k.transaction g).has_yes (gtrid_eq g g) (voted_yes (book_of tr) g) (voted_yes k g)
        ((book_of tr).row g) (k.row g) (told g w) w.1 (gtrid_eq-refl g) (ap (λ (b : Book). b.row g) behind.same)

    same_rows_for : (ws : List Gtrid) → EachOnce IsWritten ws → rows_for k ws ≡ rows_for (book_of tr) ws
    same_rows_for [] each = refl
    same_rows_for (g ∷ ws) each = λ i. (g, sym (same_voters g each.0) i) ∷ same_rows_for ws each.2 i

    asks_so : (ws : List Gtrid) → EachOnce IsWritten ws → Adds (rows_for k ws) ≡ doubt_of_happening tr (Failed (InDecide ws))
    asks_so ws each = ap (λ x. Adds x) (same_rows_for ws each) ∙ decision_asks tr ws

    right_so : (ws : List Gtrid) → EachOnce IsWritten ws → RightFault tr (InDecide ws)
    right_so ws each = each_once IsWritten (RightRow tr) (λ g w. (w.0.0, told g w)) ws each

  -- the log fails as these rows are to be written
  rows_found : (ws : List Gtrid) (o : Origin) (seen : Seen) → KeepsTrack o seen s
      → ((tr : Trace) (stands : StandsIn tr s) → EachOnce (IsWritten tr stands) ws) → IsFailedStep o seen s (Adds (rows_for k ws)) (InDecide ws)
  rows_found ws o seen keeps each =
      let may : MayFail o seen (Some (InDecide ws)) =
      (tt, λ tr history run. let stands = keeps.1 tr history run in right_so tr stands ws (each tr stands)) in
      record {
        may_fail = may;
        finds = finds_failed o seen s (InDecide ws) (Adds (rows_for k ws)) keeps may (λ tr stands. asks_so tr stands ws (each tr stands));
      }

  -- ** a decision

  -- rows of those whose yes was heard are written, if they are committed
  commits_found : (gs : List Gtrid) → turns.decide_refusal Outcomes.Commit k gs ≡ None → (o : Origin) (seen : Seen) → KeepsTrack o seen s
      → IsFailedStep o seen s (turns.rows_added Outcomes.Commit k gs) (InDecide (written_by Outcomes.Commit k gs))
  commits_found gs none o seen keeps =
      rows_found (written_by Outcomes.Commit k gs) o seen keeps
      (λ tr stands. each_chosen (MayCommit tr k) (λ g. (k.transaction g).has_yes) gs (each_may gs tr k s.lines (stands_with tr s stands) none))

  -- none is written of those that are rolled back
  none_written : (gs : List Gtrid) → written_by Outcomes.Rollback k gs ≡ []
  none_written [] = refl
  none_written (g ∷ gs) = none_written gs

  pub decisions_found : (outcome : Outcome) (gs : List Gtrid) → turns.decide_refusal outcome k gs ≡ None → (o : Origin) (seen : Seen) → KeepsTrack o seen s
      → IsFailedStep o seen s (turns.rows_added outcome k gs) (InDecide (written_by outcome k gs))
  decisions_found Outcomes.Commit gs none o seen keeps = commits_found gs none o seen keeps
  decisions_found Outcomes.Rollback gs none o seen keeps =
      subst (λ ws. IsFailedStep o seen s (Adds (rows_for k ws)) (InDecide ws)) (sym (none_written gs)) (rows_found [] o seen keeps (λ tr stands. tt))

  pub settlement_found : (g : Gtrid) → refusal_in k (Steps.Settle g) ≡ None → (k.transaction g).has_yes ≡ true → (o : Origin) (seen : Seen)
      → KeepsTrack o seen s → IsFailedStep o seen s (Adds (rows_for k (g ∷ []))) (InDecide (g ∷ []))
  settlement_found g none voted o seen keeps =
      rows_found (g ∷ []) o seen keeps (λ tr stands. (
        (
          (own_right (Steps.Settle g) Replies.Decided tt (λ tr. refl) tr k s.lines (stands_with tr s stands) none refl, begun_if_settled k g none),
          voted,
        ),
        refl,
        tt,
      ))

-- ** rows that are taken away

gone_from : (h g : Gtrid) (rows : List Row) → lists_row (without h rows) g ≡ true → gtrid_eq h g ≡ false
gone_from h g [] e = absurd (cc)
gone_from h g (x ∷ rows) e = by (gtrid_eq x.gtrid h) (gtrid_eq h g) refl refl (gone_from h g rows) e
  where
    clash : gtrid_eq x.gtrid h ≡ false → gtrid_eq x.gtrid g ≡ true → gtrid_eq h g ≡ true → ⊥
    clash apart xg hg =
        let same : x.gtrid ≡ h = gtrid_eq-true x.gtrid g xg ∙ sym (gtrid_eq-true h g hg) in
        true≢false (sym (ap (λ y. gtrid_eq y h) same ∙ gtrid_eq-refl h) ∙ apart)

    by : (s t : Bool) → gtrid_eq x.gtrid h ≡ s → gtrid_eq h g ≡ t → (lists_row (without h rows) g ≡ true → gtrid_eq h g ≡ false)
        → lists_row (if s then without h rows else x ∷ without h rows) g ≡ true → t ≡ false
    by s false p q rest e = refl
    by true true p q rest e = sym q ∙ rest e
    by false true p q rest e = in_rest (gtrid_eq x.gtrid g) refl e
      where
        in_rest : (u : Bool) → gtrid_eq x.gtrid g ≡ u → (u || lists_row (without h rows) g) ≡ true → true ≡ false
        in_rest true r e = absurd (clash p r q)
        in_rest false r e = sym q ∙ rest e

participants_stay : (h g : Gtrid) (rows : List Row) → gtrid_eq h g ≡ false → participants_in (without h rows) g ≡ participants_in rows g
participants_stay h g [] apart = refl
participants_stay h g (x ∷ rows) apart = by (gtrid_eq x.gtrid h) refl (participants_stay h g rows apart)
  where
    by : (t : Bool) → gtrid_eq x.gtrid h ≡ t → participants_in (without h rows) g ≡ participants_in rows g
        → participants_in (if t then without h rows else x ∷ without h rows) g ≡ (if gtrid_eq x.gtrid g then x.participants else participants_in rows g)
    by true p rest = rest ∙ sym (ap (λ u. if u then x.participants else participants_in rows g) (ap (λ y. gtrid_eq y g) (gtrid_eq-true x.gtrid h p) ∙ apart))
    by false p rest = ap (λ xs. if gtrid_eq x.gtrid g then x.participants else xs) rest

-- what is right after another is right before it, and is of another transaction
done_back : (tr : Trace) (h g : Gtrid) → RightDone (Then tr (Done h)) g → RightDone tr g × (gtrid_eq g h ≡ false)
done_back tr h g r = (record { is_up = r.is_up; has = has; is_settled = by r.is_settled }, gtrid_away h g apart)
  where
    apart : gtrid_eq h g ≡ false
    apart = gone_from h g (log tr) r.has

    has : has_row tr g ≡ true
    has = without_keeps h g (log tr) r.has

    by : IsRowSettled (Then tr (Done h)) g → IsRowSettled tr g
    by (inl own) = inl own
    by (inr old) = inr (
      subst (λ t. (is_older tr g && t) ≡ true) (r.has ∙ sym has) old.0,
      subst (λ bs. each_of_some (is_settled_lately tr) bs ≡ true) (participants_stay h g (log tr) apart) old.1,
    )

each_done : (gs : List Gtrid) (tr : Trace) (k : Book) (grid : Grid) → StandsWith tr k grid → turns.done_refusal k gs ≡ None → EachOnce (RightDone tr) gs
each_done [] tr k grid stands none = tt
each_done (g ∷ gs) tr k grid stands none =
    let now = done_goes_on tr k grid g stands (none_first _ _ none) in
    let rest = each_done gs (Then tr (Done g)) (after k (Done g)) grid now.1 (none_second _ _ none) in (
      now.0,
      none_same g gs (each_once _ (λ h. gtrid_eq h g ≡ false) (λ h x. (done_back tr g h x).1) gs rest),
      each_once _ (RightDone tr) (λ h x. (done_back tr g h x).0) gs rest,
    )

pub done_found : {L : Type 0} (s : Session L) (gs : List Gtrid) → turns.done_refusal (book_in s.manager) gs ≡ None → (o : Origin) (seen : Seen)
    → KeepsTrack o seen s → IsFailedStep o seen s (Drops gs) (InDone gs)
done_found s gs none o seen keeps =
    let may : MayFail o seen (Some (InDone gs)) = (
      tt,
      λ tr history run. let stands = keeps.1 tr history run in each_done gs tr (book_in s.manager) s.lines (stands_with tr s stands) none,
    ) in
    record { may_fail = may; finds = finds_failed o seen s (InDone gs) (Drops gs) keeps may (λ tr stands. refl) }
