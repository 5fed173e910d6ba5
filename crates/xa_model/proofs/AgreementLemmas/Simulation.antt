-- Each happening is some steps of the abstract commitment.
use Rattle.std.proofs.Common.{◌≡◌, List, [], ◌∷◌, Bool, true, false, refl, sym, ap, ◌∙◌, subst, ◌⊎◌}
use Rattle.std.proofs.lemmas.Bool.{or_cases}
use mathlib.Core.Logic.{◌⊎◌.inl, ◌⊎◌.inr}
use Rattle.xa_base.specs.declared.call.Call.TheVariants as Calls
use Rattle.xa_model.specs.Trace.{Gtrid, Branch, Happening, Happening.Issued, Trace, Trace.From, Trace.Then}
use Rattle.xa_base.specs.Branch.{gtrid_eq, branch_eq}
use Rattle.xa_base.specs.declared.state.Standing.{Standing}
use Rattle.xa_base.specs.declared.state.Standing.TheVariants.{Idle, Prepared, RollbackOnly, Completed, Committed, RolledBack, Lost, ReadOnly, Forgotten}
use Rattle.xa_model.specs.Facts.{handed_over, started, had_row, standing}
use Rattle.xa_model.specs.Protocol.{AllRight}
use Rattle.xa_model.proofs.Invariant.{Closed, IsGood, Inv}
use Rattle.xa_base.proofs.BranchKeys.{gtrid_eq-true, branch_eq-true, gtrid_eq-refl}
use Rattle.xa_model.proofs.Invariant.Moves.{Move, Move.Stays, Move.Starts, Move.Completes, Move.Rolls_back, CanRollBack, Move.Ends, Move.Fails, Move.Prepares, Move.Only_reads, Move.Refuses, Move.In_one_phase, Move.Commits, Move.Forgets, Move.Loses_active, Move.Loses_idle, Move.Loses_rollback_only}
use Rattle.xa_model.proofs.Invariant.Grows.{closed_kept, started_kept, handed_kept}
use Rattle.xa_model.proofs.Invariant.Rows.{rowed_kept}
use Rattle.xa_model.proofs.Invariant.Now.{step_move, started_back}
use Rattle.xa_model.proofs.Invariant.OneMore.{ended_kept}
use Rattle.xa_model.proofs.Invariant.Preservation.{always}
use Rattle.xa_model.specs.Promises.Commitment.{Phase, Phase.Working, Phase.Prepared as Willing, Phase.Committed as Kept, Phase.Aborted, phase_of}
use Rattle.xa_model.specs.Promises.Agreement.{followed_by, IsUndone, IsBranchOf, phases, IsCommitment}
use Rattle.xa_model.proofs.AgreementLemmas.Alike.{are_alike}
use Rattle.xa_model.proofs.AgreementLemmas.Ends.{right_before}
use Rattle.xa_model.proofs.AgreementLemmas.PhaseMaps.{IsEager, Change2, Change2.Same, Change2.To_willing, Change2.To_kept, Change2.In_one, Change2.To_aborted, Within, still, all_go}

-- ** the branches of a transaction

started_list : Trace → List Branch
started_list (From o) = []
started_list (Then tr (Issued l (Calls.Start c false))) = c ∷ started_list tr
started_list (Then tr (Issued l (Calls.Start c true))) = c ∷ started_list tr
started_list (Then tr _) = started_list tr

started_within : (tr : Trace) (b : Branch) → started tr b ≡ true → Within (started_list tr) b
unfolding started_list
started_within (From o) b s = cc
started_within (Then tr (Issued l (Calls.Start c false))) b s = by_case (or_cases _ _ s) (λ k. started_within tr b k)
  where
    by_case : (branch_eq c b ≡ true) ⊎ (started tr b ≡ true) → (started tr b ≡ true → Within (started_list tr) b) → (c ≡ b) ⊎ Within (started_list tr) b
    by_case (inl h) f = inl (branch_eq-true c b h)
    by_case (inr h) f = inr (f h)
started_within (Then tr (Issued l (Calls.Start c true))) b s = by_case (or_cases _ _ s) (λ k. started_within tr b k)
  where
    by_case : (branch_eq c b ≡ true) ⊎ (started tr b ≡ true) → (started tr b ≡ true → Within (started_list tr) b) → (c ≡ b) ⊎ Within (started_list tr) b
    by_case (inl h) f = inl (branch_eq-true c b h)
    by_case (inr h) f = inr (f h)
started_within (Then tr _) b s = started_within tr b s

member_test : (tr : Trace) (g : Gtrid) (b : Branch) → IsBranchOf tr g b ⊎ (IsBranchOf tr g b → ⊥)
member_test tr g b = by_tests (gtrid_eq b.gtrid g) refl (started tr b) refl
  where
    by_tests : (t : Bool) → gtrid_eq b.gtrid g ≡ t → (u : Bool) → started tr b ≡ u → IsBranchOf tr g b ⊎ (IsBranchOf tr g b → ⊥)
    by_tests true s true k = inl (gtrid_eq-true b.gtrid g s, k)
    by_tests true s false k = inr (λ h. let z = h.1 in cc)
    by_tests false s u k = inr (λ h. let z = ap (gtrid_eq b.gtrid) h.0 in let y = gtrid_eq-refl b.gtrid in cc)

-- a transaction that is closed has all its branches
started_before : (tr : Trace) (es : List Happening) (b : Branch) → AllRight (followed_by tr es) → Closed tr b.gtrid
    → started (followed_by tr es) b ≡ true → started tr b ≡ true
started_before tr [] b r c s = s
started_before tr (e ∷ es) b r c s =
    let r' = right_before (Then tr e) es r in
    started_back tr e b r'.1 c.not_live (started_before (Then tr e) es b r (closed_kept tr e b.gtrid r'.1 c) s)

handed_later : (tr : Trace) (es : List Happening) (g : Gtrid) → handed_over tr g ≡ true → handed_over (followed_by tr es) g ≡ true
handed_later tr [] g h = h
handed_later tr (e ∷ es) g h = handed_later (Then tr e) es g (handed_kept tr e g h)

-- ** one happening

data PhaseMove (tr : Trace) (b : Branch) : Phase → Phase → Type 0 where
  P_same : (x : Phase) → PhaseMove tr b x x
  P_willing : PhaseMove tr b Working Willing
  P_kept : had_row tr b.gtrid ≡ true → PhaseMove tr b Willing Kept
  P_one : handed_over tr b.gtrid ≡ true → PhaseMove tr b Working Kept
  P_aborted : (x : Phase) → (x ≡ Working) ⊎ (x ≡ Willing) → PhaseMove tr b x Aborted

can_roll_back_phase : (f : Standing) → CanRollBack f → (phase_of f ≡ Working) ⊎ (phase_of f ≡ Willing)
can_roll_back_phase Idle c = inl refl
can_roll_back_phase Prepared c = inr refl
can_roll_back_phase RollbackOnly c = inl refl
can_roll_back_phase _ c = absurd c

phase_move : (tr : Trace) (b : Branch) (f g : Standing) → Move tr b f g → PhaseMove tr b (phase_of f) (phase_of g)
phase_move tr b f g (Stays x) = P_same (phase_of x)
phase_move tr b f g (Starts s) = P_same Working
phase_move tr b f g Ends = P_same Working
phase_move tr b f g Fails = P_same Working
phase_move tr b f g Prepares = P_willing
phase_move tr b f g Only_reads = P_willing
phase_move tr b f g Refuses = P_aborted Working (inl refl)
phase_move tr b f g (In_one_phase h) = P_one h
phase_move tr b f g (Commits h) = P_kept h
phase_move tr b f g (Rolls_back x c p q) = P_aborted (phase_of x) (can_roll_back_phase x c)
phase_move tr b f g (Completes how) = P_same Willing
phase_move tr b f g (Forgets how h) = P_same Willing
phase_move tr b f g Loses_active = P_aborted Working (inl refl)
phase_move tr b f g Loses_idle = P_aborted Working (inl refl)
phase_move tr b f g Loses_rollback_only = P_aborted Working (inl refl)

kept_fate : (f : Standing) → phase_of f ≡ Kept → f ≡ Committed
kept_fate Committed h = refl
kept_fate _ h = cc

aborted_fate : (f : Standing) → phase_of f ≡ Aborted → IsUndone f
aborted_fate RolledBack h = inl refl
aborted_fate Lost h = inr refl
aborted_fate _ h = absurd (cc)

eager_fate : (f : Standing) → IsGood f → IsEager (phase_of f)
eager_fate Prepared h = inl refl
eager_fate (Completed how) h = inl refl
eager_fate Committed h = inr refl
eager_fate ReadOnly h = inl refl
eager_fate (Forgotten how) h = inl refl
eager_fate _ h = absurd h

one_change : (tr : Trace) (e : Happening) (es : List Happening) (g : Gtrid) (b : Branch) (x y : Phase)
    → AllRight (followed_by (Then tr e) es) → IsBranchOf (followed_by (Then tr e) es) g b → PhaseMove tr b x y → phases tr b ≡ x
    → phases (Then tr e) b ≡ y → Change2 (IsBranchOf (followed_by (Then tr e) es) g) (phases tr) (phases (Then tr e)) b
one_change tr e es g b x y r k (P_same z) p q = Same (p ∙ sym q)
one_change tr e es g b x y r k P_willing p q = To_willing p q
one_change tr e es g b x y r k (P_kept h) p q =
    To_kept p q (λ c m. (
      eager_fate _ ((inv.rows b.gtrid h).good c (same c m) (before c m)),
      eager_fate _ ((inv'.rows b.gtrid (rowed_kept tr e b.gtrid h)).good c (same c m) (started_kept tr e c (before c m))),
    ))
  where
    r' : AllRight (Then tr e)
    r' = right_before (Then tr e) es r

    inv : Inv tr
    inv = always tr r'.0

    inv' : Inv (Then tr e)
    inv' = always (Then tr e) r'

    same : (c : Branch) → IsBranchOf (followed_by (Then tr e) es) g c → c.gtrid ≡ b.gtrid
    same c m = m.0 ∙ sym k.0

    before : (c : Branch) → IsBranchOf (followed_by (Then tr e) es) g c → started tr c ≡ true
    before c m = started_before tr (e ∷ es) c r (subst (Closed tr) (sym (same c m)) (inv.rows b.gtrid h).closed) m.1
one_change tr e es g b x y r k (P_one h) p q =
    In_one p q (λ c m. sym ((always (followed_by (Then tr e) es) r).handed_one b c (handed_later tr (e ∷ es) b.gtrid h) (m.0 ∙ sym k.0) k.1 m.1))
one_change tr e es g b x y r k (P_aborted z o) p q =
    To_aborted (still z (phases tr b) p o) q
    (λ c m. (λ w. none c m (ended_kept tr e c Committed (always tr r'.0) r'.1 tt (kept_fate _ w)), λ w. none c m (kept_fate _ w)))
  where
    r' : AllRight (Then tr e)
    r' = right_before (Then tr e) es r

    none : (c : Branch) → IsBranchOf (followed_by (Then tr e) es) g c → standing (Then tr e) c ≡ Committed → ⊥
    none c m f = are_alike (Then tr e) r' c b (m.0 ∙ sym k.0) f (aborted_fate _ q)

pub commitment : (tr : Trace) (e : Happening) (es : List Happening) → AllRight (followed_by (Then tr e) es) → IsCommitment tr e (followed_by (Then tr e) es)
commitment tr e es r g =
    let r' = right_before (Then tr e) es r in
    all_go (IsBranchOf (followed_by (Then tr e) es) g) (phases tr) (phases (Then tr e)) (member_test (followed_by (Then tr e) es) g)
    (λ b k. one_change tr e es g b _ _ r k (phase_move tr b _ _ (step_move tr e b (always tr r'.0) r'.1)) refl refl)
    (started_list (followed_by (Then tr e) es)) (phases tr) (λ c k. inl refl) (λ c k. inr (started_within (followed_by (Then tr e) es) c k.1))
