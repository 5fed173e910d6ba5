-- A faithful driver, worked out.
use Rattle.std.proofs.Common.{◌≡◌, ◌∙◌, ◌+◌, Bool, true, false, ℕ, length, length-append, List, [], ◌∷◌, ◌++◌, Option, Some, None, refl, sym, ap, subst, arith}
use Rattle.std.proofs.lemmas.Bool.{true≢false}
use Rattle.std.proofs.lemmas.List.{append-nil}
use Rattle.std.proofs.lemmas.List.Elements.{All-cons, All-nil}
use Rattle.std.specs.Prelude.{◌&&◌, ◌||◌, if◌then◌else◌, slice_get}
use Rattle.xa_base.proofs.BranchKeys.{branch_eq-refl, branch_eq-true}
use Rattle.xa_base.specs.Branch.{branch_eq}
use Rattle.xa_base.specs.StateTable.{Kind, Kind.Commit as Commits, Kind.End as Ends, Kind.Prepare as Prepares, Kind.Start as Starts, answer, asks_of, broken, moved, state_of}
use Rattle.xa_base.specs.declared.answer.Answer.TheVariants.{Ret}
use Rattle.xa_base.specs.declared.call.Call.TheVariants as Calls
use Rattle.xa_base.specs.declared.code.Code.TheVariants.{Success}
use Rattle.xa_base.specs.declared.state.Standing.{Standing}
use Rattle.xa_base.specs.declared.state.Standing.TheVariants.{Active, Committed, Idle, Prepared, Unstarted}
use Rattle.xa_base.specs.declared.step.Outcome.TheVariants as Outcomes
use Rattle.xa_base.specs.declared.vote.Vote.TheVariants.{Yes}
use Rattle.xa_drivers.proofs.Waiting.{waits_on}
use Rattle.xa_drivers.specs.Deeds.{Deeds, Deeds.Did, Deeds.Made, Deeds.Nothing, Deeds.Severed, Deeds.Told, ObeyTable, seen_of, stands}
use Rattle.xa_drivers.specs.Faithful.{AreUnrelated, IsLostNext.NoneMade, IsToldNext.Newest, DrivesByRules, DrivesByRules.Begins, DrivesByRules.Loses, DrivesByRules.Makes, DrivesByRules.Does, DrivesByRules.Tells, DrivesByRules.TellsLoss, Untold, Untold.ALoss, Untold.AnAnswer, begins_branch, is_open_branch, open_on}
use Rattle.xa_drivers.specs.Worked.{FaithfulDriversAreThere, at, commit, both_issued, calls_done, half_committed, votes}
use Rattle.xa_model.proofs.Keys.{line_eq-refl, line_eq-true}
use Rattle.xa_model.specs.Facts.{issued, taken}
use Rattle.xa_model.specs.Trace.{Answer, Branch, Call, Gtrid, Happening.Begun, Happening.Decided, Happening.Issued, Line, Origin, Trace, Trace.Then, line_eq, line_of}
use Rattle.xa_monitor.proofs.Taken.{same_lines}
use Rattle.xa_monitor.specs.Agreement.{IsLineOf, WaitsAt}
use Rattle.xa_monitor.specs.Seen.{IsHistory, IsHistory.Does, IsHistory.Hears, IsHistory.Starts, Seen, Seen.Answered, Seen.Did as Saw, Seen.Start}

-- ** lines on which nothing waits

abbrev IsQuiet : Origin → Seen → Type 0
IsQuiet o seen = (l : Line) (tr : Trace) → IsHistory o seen tr → length (issued tr l) ≡ length (taken tr l)

quiet_start : (o : Origin) → IsQuiet o Start
quiet_start o l _ (Starts held) = refl

as_before : {X Y : Type 0} (xs : List X) (ys : List Y) → length xs ≡ length ys → length (xs ++ []) ≡ length (ys ++ [])
as_before xs ys e = ap length (append-nil xs) ∙ (e ∙ sym (ap length (append-nil ys)))

quiet_begun : (o : Origin) (seen : Seen) (g : Gtrid) → IsQuiet o seen → IsQuiet o (Saw seen (Begun g))
quiet_begun o seen g quiet l _ (Does _ tr _ i) = as_before (issued tr l) (taken tr l) (quiet l tr i)

quiet_decided : (o : Origin) (seen : Seen) (g : Gtrid) → IsQuiet o seen → IsQuiet o (Saw seen (Decided g Outcomes.Commit))
quiet_decided o seen g quiet l _ (Does _ tr _ i) = as_before (issued tr l) (taken tr l) (quiet l tr i)

both_longer : {X Y : Type 0} (t : Bool) (xs : List X) (x : X) (ys : List Y) (y : Y) → length xs ≡ length ys
    → length (((xs ++ (if t then x ∷ [] else [])) ++ []) ++ []) ≡ length (((ys ++ []) ++ (if t then y ∷ [] else [])) ++ [])
both_longer true xs x ys y e = simp (append-nil, length-append) (omega (arith, e))
both_longer false xs x ys y e = simp append-nil e

module _ (o : Origin) (seen : Seen) (quiet : IsQuiet o seen) (l : Line) (c : Call) where
  quiet_answered : (a : Answer) → IsQuiet o (Answered (Saw seen (Issued l c)) l c a)
  quiet_answered a m _ (Hears _ _ now _ _ _ (Does _ tr _ i) alone) =
      let s = same_lines (Then tr (Issued l c)) now alone in
      ap (λ xs. length ((xs ++ []) ++ [])) (s.calls m)
      ∙ (both_longer (line_eq l m) (issued tr m) c (taken tr m) (c, a) (quiet m tr i)
      ∙ sym (ap (λ xs. length ((xs ++ (if line_eq l m then (c, a) ∷ [] else [])) ++ [])) (s.taken_are m)))

  last : {X : Type 0} (xs : List X) (x : X) (n : ℕ) → n ≡ length xs → slice_get (xs ++ x ∷ []) n ≡ Some x
  last xs x n e = ap (slice_get (xs ++ x ∷ [])) e ∙ by xs
    where
      by : {X : Type 0} {x : X} (xs : List X) → slice_get (xs ++ x ∷ []) (length xs) ≡ Some x
      by [] = refl
      by (y ∷ xs) = by xs

  waits_next : WaitsAt o (Saw seen (Issued l c)) l 0 (Some c)
  waits_next _ (Does _ tr _ i) runs =
      ap (λ t. slice_get (issued tr l ++ (if t then c ∷ [] else [])) (length (taken tr l ++ []) + 0)) (line_eq-refl l)
      ∙ last (issued tr l) c (length (taken tr l ++ []) + 0)
      (let e : length (taken tr l ++ []) ≡ length (issued tr l) = ap length (append-nil (taken tr l)) ∙ sym (quiet l tr i) in omega (arith, e))

-- ** one call

abbrev IsOwn : (from : Branch → Standing) → Deeds → Line → Call → Type 0
IsOwn from ds l c = (k : Kind) (b : Branch) → asks_of c ≡ Some (k, b) → (begins_branch k || is_open_branch (stands from ds b)) ≡ true → l ≡ line_of b

module _ (o : Origin) (g : Gtrid) (l : Line) (of : IsLineOf o l) where
  abbrev none : Branch → Standing
  none b = Unstarted

  -- nothing is left to be told, and nothing waits
  record IsThere (ds : Deeds) : Type 0 where
    keeps : DrivesByRules o none ds []
    quiet : IsQuiet o (seen_of ds)

  one : (ds : Deeds) (c : Call) (a : Answer) → ((k : Kind) (b : Branch) → asks_of c ≡ Some (k, b) → l ≡ line_of b) → IsThere ds
      → IsThere (Told (Made (Did ds (Issued l c)) l c a) l c a)
  one ds c a own r = record {
    keeps =
        Tells (Made (Did ds (Issued l c)) l c a) (AnAnswer l c a ∷ []) [] l c a
        (Makes (Did ds (Issued l c)) [] l c a (Does ds [] (Issued l c) r.keeps tt)
        (record {
          of_session = of;
          connected = refl;
          issued = waits_next o (seen_of ds) r.quiet l c;
          own_line = λ k b asks opens. own k b asks;
        }))
        (Newest [] (All-nil (AreUnrelated (AnAnswer l c a))));
    quiet = quiet_answered o (seen_of ds) r.quiet l c a;
  }

  line_asked : Option (Kind × Branch) → Line
  line_asked (Some (k, b)) = line_of b
  line_asked None = l

  asked : (c : Call) (k : Kind) → asks_of c ≡ Some (k, at g l) → (j : Kind) (b : Branch) → asks_of c ≡ Some (j, b) → l ≡ line_of b
  unfolding line_asked
  asked c k is j b e = ap line_asked (sym is ∙ e)

  abbrev opened : Deeds → Deeds
  opened ds = calls_done l (Calls.OpenRm ∷ []) ds

  abbrev started : Deeds → Deeds
  started ds = calls_done l (Calls.OpenRm ∷ Calls.Start (at g l) false ∷ []) ds

  abbrev ended : Deeds → Deeds
  ended ds = calls_done l (Calls.OpenRm ∷ Calls.Start (at g l) false ∷ Calls.End (at g l) false ∷ []) ds

  voted : (ds : Deeds) → IsThere ds → IsThere (votes g l ds)
  voted ds r =
      one (ended ds) (Calls.Prepare (at g l)) (Ret Success) (asked (Calls.Prepare (at g l)) Prepares refl)
      (one (started ds) (Calls.End (at g l) false) (Ret Success) (asked (Calls.End (at g l) false) (Ends false) refl)
      (one (opened ds) (Calls.Start (at g l) false) (Ret Success) (asked (Calls.Start (at g l) false) Starts refl)
      (one ds Calls.OpenRm (Ret Success) (λ k b e. absurd (let never : ⊥ = cc in never)) r)))

  -- ** where its branch stands

  abbrev now : Deeds → Branch → Standing
  now ds b = stands none ds b

  abbrev moved_if : Bool → Kind → Standing → Standing
  moved_if t k f = if t then moved f k Success else f

  is_itself : branch_eq (at g l) (at g l) ≡ true
  is_itself = branch_eq-refl (at g l)

  is_active : (ds : Deeds) → now ds (at g l) ≡ Unstarted → now (started ds) (at g l) ≡ Active
  is_active ds e = ap (λ t. moved_if t Starts (now ds (at g l))) is_itself ∙ ap (λ f. moved f Starts Success) e

  is_idle : (ds : Deeds) → now ds (at g l) ≡ Unstarted → now (ended ds) (at g l) ≡ Idle
  is_idle ds e = ap (λ t. moved_if t (Ends false) (now (started ds) (at g l))) is_itself ∙ ap (λ f. moved f (Ends false) Success) (is_active ds e)

  is_prepared : (ds : Deeds) → now ds (at g l) ≡ Unstarted → now (votes g l ds) (at g l) ≡ Prepared
  is_prepared ds e = ap (λ t. moved_if t Prepares (now (ended ds) (at g l))) is_itself ∙ ap (λ f. moved f Prepares Success) (is_idle ds e)

  others_stay : (ds : Deeds) (b : Branch) → branch_eq (at g l) b ≡ false → now (votes g l ds) b ≡ now ds b
  others_stay ds b e = ap (λ t. moved_if t Prepares (moved_if t (Ends false) (moved_if t Starts (now ds b)))) e

  answers_so : (f : Standing) (s : Standing) (k : Kind) → f ≡ s → answer k (state_of s) Yes 0 ≡ Success → answer k (state_of f) Yes 0 ≡ Success
  answers_so f s k e is = ap (λ z. answer k (state_of z) Yes 0) e ∙ is

  obeys : (ds : Deeds) → now ds (at g l) ≡ Unstarted → ObeyTable (λ b. true) none ds → ObeyTable (λ b. true) none (votes g l ds)
  obeys ds e obey = (
    (
      (
        (obey, (λ i. refl), tt),
        (λ i. refl),
        (λ i. (Yes, (0, answers_so (now (opened ds) (at g l)) Unstarted Starts e refl))),
      ),
      (λ i. refl),
      (λ i. (Yes, (0, answers_so (now (started ds) (at g l)) Active (Ends false) (is_active ds e) refl))),
    ),
    (λ i. refl),
    (λ i. (Yes, (0, answers_so (now (ended ds) (at g l)) Idle Prepares (is_idle ds e) refl))),
  )

-- ** both branches

module _ (o : Origin) (g : Gtrid) (l m : Line) (apart : line_eq l m ≡ false) (of_l : IsLineOf o l) (of_m : IsLineOf o m) where
  abbrev start : Deeds
  start = Did Nothing (Begun g)

  abbrev one_voted : Deeds
  one_voted = votes g l start

  abbrev both_voted : Deeds
  both_voted = votes g m one_voted

  abbrev stand : Deeds → Branch → Standing
  stand ds b = stands (λ x. Unstarted) ds b

  differ : branch_eq (at g l) (at g m) ≡ false
  differ = by (branch_eq (at g l) (at g m)) refl
    where
      by : (t : Bool) → branch_eq (at g l) (at g m) ≡ t → branch_eq (at g l) (at g m) ≡ false
      by false e = e
      by true e =
          let same : l ≡ m = ap line_of (branch_eq-true (at g l) (at g m) e) in
          absurd (true≢false (sym (line_eq-refl l) ∙ (ap (line_eq l) same ∙ apart)))

  differ_back : branch_eq (at g m) (at g l) ≡ false
  differ_back = by (branch_eq (at g m) (at g l)) refl
    where
      by : (t : Bool) → branch_eq (at g m) (at g l) ≡ t → branch_eq (at g m) (at g l) ≡ false
      by false e = e
      by true e =
          let same : m ≡ l = ap line_of (branch_eq-true (at g m) (at g l) e) in
          absurd (true≢false (sym (line_eq-refl l) ∙ (ap (line_eq l) (sym same) ∙ apart)))

  back : line_eq m l ≡ false
  back = by (line_eq m l) refl
    where
      by : (t : Bool) → line_eq m l ≡ t → line_eq m l ≡ false
      by false e = e
      by true e = absurd (true≢false (sym (line_eq-refl l) ∙ (ap (line_eq l) (sym (line_eq-true m l e)) ∙ apart)))

  there : IsThere o g m of_m both_voted
  there = let x = voted o g l of_l start (record { keeps = Does Nothing [] (Begun g) Begins tt; quiet = quiet_begun o Start g (quiet_start o) }) in
      voted o g m of_m one_voted (record { keeps = x.keeps; quiet = x.quiet })

  abbrev decision : Deeds
  decision = Did both_voted (Decided g Outcomes.Commit)

  abbrev first_made : Deeds
  first_made = Made (both_issued g l m) l (commit g l) (Ret Success)

  commit_made : DrivesByRules o (λ b. Unstarted) first_made (AnAnswer l (commit g l) (Ret Success) ∷ [])
  commit_made =
      Makes (both_issued g l m) [] l (commit g l) (Ret Success)
      (Does (Did decision (Issued l (commit g l))) [] (Issued m (commit g m)) (Does decision [] (Issued l (commit g l)) (Does both_voted [] (Decided g Outcomes.Commit) there.keeps tt) tt) tt)
      (record {
        of_session = of_l;
        connected = refl;
        issued =
            waits_on o (seen_of (Did decision (Issued l (commit g l)))) (Issued m (commit g m)) l 0 (commit g l) tt
            (waits_next o (seen_of decision) (quiet_decided o (seen_of both_voted) g there.quiet) l (commit g l));
        own_line = λ k b asks opens. asked o g l of_l (commit g l) Commits refl k b asks;
      })

  half : DrivesByRules o (λ b. Unstarted) (half_committed g l m) (AnAnswer l (commit g l) (Ret Success) ∷ [])
  half =
      TellsLoss (Severed first_made m) _ _ m (Some (commit g m))
      (Loses first_made (AnAnswer l (commit g l) (Ret Success) ∷ []) m commit_made)
      (NoneMade (Some (commit g m)) (open_on (stand first_made) m) _ _ (Newest _ (All-cons (AreUnrelated loss) made [] clear (All-nil (AreUnrelated loss)))))
    where
      loss : Untold
      loss = ALoss m (open_on (stand first_made) m)

      made : Untold
      made = AnAnswer l (commit g l) (Ret Success)

      clear : AreUnrelated loss made
      clear = record {
        lines = back;
        branches = λ b open_there is.
            true≢false (sym (subst (λ z. open_on (stand first_made) m z ≡ true) (sym is) open_there) ∙ ap (λ t. t && is_open_branch (stand first_made (at g l))) back);
      }

  -- ** where both stand

  one_prepared : stand both_voted (at g l) ≡ Prepared
  one_prepared = others_stay o g m of_m one_voted (at g l) differ_back ∙ is_prepared o g l of_l start refl

  other_prepared : stand both_voted (at g m) ≡ Prepared
  other_prepared = is_prepared o g m of_m one_voted (others_stay o g l of_l start (at g m) differ)

  both_obey : ObeyTable (λ b. true) (λ b. Unstarted) (half_committed g l m)
  both_obey = (
    obeys o g m of_m one_voted (others_stay o g l of_l start (at g m) differ) (obeys o g l of_l start refl tt),
    (λ i. refl),
    (λ i. (Yes, (0, answers_so o g l of_l (stand both_voted (at g l)) Prepared Commits one_prepared refl))),
  )

  one_committed : stand (half_committed g l m) (at g l) ≡ Committed
  one_committed =
      ap (λ t. if t then broken (stand first_made (at g l)) else stand first_made (at g l)) back
      ∙ (ap (λ t. if t then moved (stand both_voted (at g l)) Commits Success else stand both_voted (at g l)) (branch_eq-refl (at g l))
      ∙ ap (λ f. moved f Commits Success) one_prepared)

  other_stays : stand (half_committed g l m) (at g m) ≡ Prepared
  other_stays =
      ap (λ t. if t then broken (stand first_made (at g m)) else stand first_made (at g m)) (line_eq-refl m)
      ∙ ap broken
      (ap (λ t. if t then moved (stand both_voted (at g m)) Commits Success else stand both_voted (at g m)) differ ∙ other_prepared)

pub are_there : FaithfulDriversAreThere
are_there o g l m apart of_l of_m = record {
  faithful = record { untold = AnAnswer l (commit g l) (Ret Success) ∷ []; keeps = half o g l m apart of_l of_m };
  obey = both_obey o g l m apart of_l of_m;
  committed = one_committed o g l m apart of_l of_m;
  prepared = other_stays o g l m apart of_l of_m;
}
