-- Branches end alike and as the log says, and heuristic ends are held.
use Rattle.std.proofs.Common.{◌≡◌, List, [], ◌++◌, length, Bool, true, false, refl, sym, ap, ◌∙◌, subst, arith, ◌⊎◌}
use Rattle.std.specs.Prelude.{if◌then◌else◌, Some, slice_get}
use Rattle.std.proofs.lemmas.Bool.{false_from_ne_true}
use mathlib.Core.Logic.{◌⊎◌.inl, ◌⊎◌.inr}
use Rattle.xa_model.specs.Trace.{Gtrid, Branch, Line, Happening, Happening.Issued, Happening.Resolved, Happening.ResolvedOpen, Happening.Took, Happening.Crashed, Happening.Failed, Happening.Restarted, Trace, Trace.From, Trace.Then}
use Rattle.xa_base.specs.declared.step.Part.TheVariants as Part
use Rattle.xa_base.specs.StateTable.{state_of}
use Rattle.xa_base.specs.declared.state.Standing.{Standing}
use Rattle.xa_base.specs.declared.state.Standing.TheVariants.{Prepared, Committed}
use Rattle.xa_model.specs.Facts.{up, handed_over, started, has_row, had_row, ever, recorded_as, breaks, new_taken, new_calls, taken, issued, standing}
use Rattle.xa_model.specs.Promises.Processes.{OwnAreAlike}
use Rattle.xa_model.specs.Protocol.{Right, AllRight, IsRun}
use Rattle.xa_model.proofs.Invariant.{IsAtRest, IsGood, IsOlder, HasBegun, Inv}
use Rattle.xa_model.proofs.Invariant.Moves.{Move, Move.Commits as Commits_now}
use Rattle.xa_base.proofs.Lists.{get_none}
use Rattle.xa_model.proofs.Invariant.Now.{begun_or_older, older_not_started, row_fact_ever, settled_at_rest, step_move}
use Rattle.xa_model.proofs.Invariant.Preservation.{always, begun_is_started, run_always}
use Rattle.xa_model.specs.Promises.Agreement.{followed_by, IsFinal, IsUndone, AreAlike, HeuristicsAreHeld, AsLogged, DoubtIsDown}
use Rattle.xa_model.proofs.AgreementLemmas.Ends.{right_before, final}

-- ** alike

undone_not_good : (f : Standing) → IsUndone f → IsGood f → ⊥
undone_not_good f (inl u) h = subst IsGood u h
undone_not_good f (inr u) h = subst IsGood u h

undone_not_committed : (f : Standing) → IsUndone f → f ≡ Committed → ⊥
undone_not_committed f (inl u) c = cc
undone_not_committed f (inr u) c = cc

undone_begun : (f : Standing) → IsUndone f → HasBegun f
undone_begun f (inl u) = subst HasBegun (sym u) tt
undone_begun f (inr u) = subst HasBegun (sym u) tt

started_alike : (tr : Trace) (b c : Branch) → Inv tr → b.gtrid ≡ c.gtrid → started tr b ≡ true → started tr c ≡ true
    → standing tr b ≡ Committed → IsUndone (standing tr c) → ⊥
started_alike tr b c inv q b_started c_started f u = by_case (inv.committed b f)
  where
    by_case : ((had_row tr b.gtrid ≡ true) ⊎ (handed_over tr b.gtrid ≡ true)) ⊎ IsOlder tr b → ⊥
    by_case (inl (inl h)) = undone_not_good _ u ((inv.rows b.gtrid h).good c (sym q) c_started)
    by_case (inl (inr h)) = undone_not_committed _ u (sym (ap (standing tr) (inv.handed_one b c h (sym q) b_started c_started)) ∙ f)
    by_case (inr o) = older_not_started tr b inv o b_started

pub are_alike : (tr : Trace) → AllRight tr → AreAlike tr
are_alike tr r b c q f u =
    started_alike tr b c (always tr r) q (begun_is_started tr b r (subst HasBegun (sym f) tt)) (begun_is_started tr c r (undone_begun _ u)) f u

-- whatever a process found, its own transactions are alike
pub own_alike : (tr : Trace) → IsRun tr → OwnAreAlike tr
own_alike tr r b c n q f u =
    by_case (begun_or_older tr b inv (subst HasBegun (sym f) tt)) (begun_or_older tr c inv (undone_begun _ u))
  where
    inv : Inv tr
    inv = run_always tr r

    by_case : (started tr b ≡ true) ⊎ IsOlder tr b → (started tr c ≡ true) ⊎ IsOlder tr c → ⊥
    by_case (inl s) (inl t) = started_alike tr b c inv q s t f u
    by_case (inr o) t = omega (arith, n, o)
    by_case (inl s) (inr o) = let i = ap (λ (g : Gtrid). g.incarnation) q in omega (arith, n, o, i)

-- ** heuristics

pub held : (tr : Trace) → AllRight tr → HeuristicsAreHeld tr
held tr r b how (inl h) = inl (ap state_of h)
held tr r b how (inr h) = inr (by_case ((always tr r).forgotten b how h))
  where
    by_case : (recorded_as tr b ≡ Some how) ⊎ IsOlder tr b → recorded_as tr b ≡ Some how
    by_case (inl k) = k
    by_case (inr o) = absurd (older_not_started tr b (always tr r) o (begun_is_started tr b r (subst HasBegun (sym h) tt)))

-- ** the log

commit_cause : (tr : Trace) (b : Branch) (f g : Standing) → Move tr b f g → f ≡ Prepared → g ≡ Committed → had_row tr b.gtrid ≡ true
commit_cause tr b f g (Commits_now p) q k = p
commit_cause tr b f g _ q k = cc

pub prepared_not_at_rest : (f : Standing) → f ≡ Prepared → IsAtRest f → ⊥
prepared_not_at_rest f q h = subst IsAtRest q h

row_of_prepared : (tr : Trace) (b : Branch) → AllRight tr → standing tr b ≡ Prepared → had_row tr b.gtrid ≡ true → has_row tr b.gtrid ≡ true
row_of_prepared tr b r p h = by_test (has_row tr b.gtrid) refl
  where
    s : started tr b ≡ true
    s = begun_is_started tr b r (subst HasBegun (sym p) tt)

    by_test : (t : Bool) → has_row tr b.gtrid ≡ t → t ≡ true
    by_test true n = refl
    by_test false n = absurd (prepared_not_at_rest _ p (settled_at_rest tr b (always tr r) s ((always tr r).row_left b.gtrid h n b refl s)))

pub undone_no_row : (tr : Trace) (b : Branch) → AllRight tr → IsUndone (standing tr b) → ever tr b.gtrid ≡ false
undone_no_row tr b r u =
    false_from_ne_true _ (λ e. undone_not_good _ u ((row_fact_ever tr b.gtrid (always tr r) e).good b refl (begun_is_started tr b r (undone_begun _ u))))

pub as_logged : (tr : Trace) (e : Happening) (es : List Happening) → AllRight (followed_by (Then tr e) es) → AsLogged tr e (followed_by (Then tr e) es)
as_logged tr e es r =
    let r' = right_before (Then tr e) es r in
    let inv = always tr r'.0 in
    record {
      committed = λ b p c. row_of_prepared tr b r'.0 p (commit_cause tr b _ _ (step_move tr e b inv r'.1) p c);
      rolled_back = λ b p u. undone_no_row (followed_by (Then tr e) es) b r (inl (final (Then tr e) es b r (subst IsFinal (sym u) tt) ∙ u));
    }

-- ** doubt

down_after : (tr : Trace) (e : Happening) (l : Line) → Right tr e → up (Then tr e) ≡ false → (breaks tr e l ≡ true) ⊎ (up tr ≡ false)
down_after tr (Crashed Part.Manager) l r u = inl refl
down_after tr (Failed f) l r u = by_test (up tr) refl
  where
    by_test : (t : Bool) → up tr ≡ t → (t ≡ true) ⊎ (up tr ≡ false)
    by_test true q = inl refl
    by_test false q = inr q
down_after tr (Restarted i d n) l r u = cc
down_after tr _ l r u = inr u

down_no_calls : (tr : Trace) (e : Happening) (l : Line) → Right tr e → up tr ≡ false → new_calls tr e l ≡ []
down_no_calls tr (Issued m c) l r u = let k = r.0 in cc
down_no_calls tr (Resolved n) l r u = let k = r.0 in cc
down_no_calls tr (ResolvedOpen n) l r u = let k = r.0 in cc
down_no_calls tr _ l r u = refl

down_no_answers : (tr : Trace) (e : Happening) (l : Line) → Right tr e → ((m : Line) → issued tr m ≡ []) → new_taken e l ≡ []
down_no_answers tr (Took m c a) l r n = absurd (get_none (length (taken tr m)) c (subst (λ z. slice_get z (length (taken tr m)) ≡ Some c) (n m) r.0))
down_no_answers tr _ l r n = refl

pub down_empty : (tr : Trace) → AllRight tr → up tr ≡ false → (l : Line) → (issued tr l ≡ []) × (taken tr l ≡ [])
down_empty (From o) r u l = cc
down_empty (Then tr e) r u l = by_case (down_empty tr r.0) (down_after tr e l r.1 u)
  where
    kept : ((m : Line) → (issued tr m ≡ []) × (taken tr m ≡ [])) → up tr ≡ false → (issued tr l ++ new_calls tr e l ≡ []) × (taken tr l ++ new_taken e l ≡ [])
    kept f d = (λ i. (f l).0 i ++ down_no_calls tr e l r.1 d i, λ i. (f l).1 i ++ down_no_answers tr e l r.1 (λ m. (f m).0) i)

    by_break : (t : Bool) → (issued tr l ++ new_calls tr e l ≡ []) × (taken tr l ++ new_taken e l ≡ [])
        → ((if t then [] else issued tr l ++ new_calls tr e l) ≡ []) × ((if t then [] else taken tr l ++ new_taken e l) ≡ [])
    by_break true p = (refl, refl)
    by_break false p = p

    broken_line : (t : Bool) → t ≡ true → ((if t then [] else issued tr l ++ new_calls tr e l) ≡ []) × ((if t then [] else taken tr l ++ new_taken e l) ≡ [])
    broken_line true q = (refl, refl)
    broken_line false q = absurd (cc)

    by_case : (up tr ≡ false → (m : Line) → (issued tr m ≡ []) × (taken tr m ≡ [])) → (breaks tr e l ≡ true) ⊎ (up tr ≡ false)
        → ((if breaks tr e l then [] else issued tr l ++ new_calls tr e l) ≡ []) × ((if breaks tr e l then [] else taken tr l ++ new_taken e l) ≡ [])
    by_case f (inl q) = broken_line (breaks tr e l) q
    by_case f (inr q) = by_break (breaks tr e l) (kept (f q) q)

pub doubt_is_down : (tr : Trace) → AllRight tr → DoubtIsDown tr
doubt_is_down tr r = by_test (up tr) refl
  where
    by_test : (t : Bool) → up tr ≡ t → DoubtIsDown tr
    by_test true u = inl ((always tr r).doubt_down u)
    by_test false u = inr (u, down_empty tr r u)
