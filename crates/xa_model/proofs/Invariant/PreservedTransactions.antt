-- What holds of transactions and branches is kept by every right event.
use Rattle.std.proofs.Common.{◌≡◌, ◌≤◌, true, false, sym, ap, ◌∙◌, subst, arith, ◌⊎◌}
use mathlib.Core.Logic.{◌⊎◌.inl, ◌⊎◌.inr}
use Rattle.std.proofs.lemmas.Bool.{false_from_ne_true, or_cases}
use Rattle.xa_base.specs.declared.call.Call.TheVariants as Calls
use Rattle.xa_base.specs.StateTable.{on}
use Rattle.xa_model.specs.Trace.{Gtrid, Branch, Line, Kind.OnePhase, Outcome, Happening, Happening.Begun, Happening.Issued, Happening.Crashed, Happening.Failed, Happening.Restarted, Trace, Trace.Then}
use Rattle.xa_base.specs.declared.step.Part.TheVariants as Part
use Rattle.xa_base.specs.Branch.{gtrid_eq}
use Rattle.xa_base.specs.declared.state.Standing.TheVariants.{Unstarted, Committed}
use Rattle.xa_model.specs.Facts.{origin, incarnation, begun, decided_so, handed_over, live, started, had_row, standing}
use Rattle.xa_model.specs.Protocol.{RightCall, RightDecision, Right}
use Rattle.xa_model.proofs.Invariant.{Old, IsOlder, Inv}
use Rattle.xa_base.proofs.BranchKeys.{gtrid_eq-true}
use Rattle.xa_model.proofs.Invariant.Moves.{unstarted_moves, committed_moves}
use Rattle.xa_model.proofs.Invariant.Grows.{NewBranch, old_kept, started_kept, started_new, handed_kept, handed_new, NewDecision, NewDecision.Was_decided, NewDecision.By_decide, NewDecision.By_recovery, decided_new}
use Rattle.xa_model.proofs.Invariant.Rows.{rowed_kept}
use Rattle.xa_model.proofs.Invariant.Now.{closed_handed, live_begun, step_move, starting_live, started_back, right_on}

-- ** transactions and branches

begun_new : (tr : Trace) (e : Happening) (g : Gtrid) → begun (Then tr e) g ≡ true → (begun tr g ≡ true) ⊎ (e ≡ Begun g)
begun_new tr (Begun h) g b = by_case (or_cases _ _ b)
  where
    by_case : (gtrid_eq h g ≡ true) ⊎ (begun tr g ≡ true) → (begun tr g ≡ true) ⊎ (Begun h ≡ Begun g)
    by_case (inl s) = inr (ap (λ x. Begun x) (gtrid_eq-true h g s))
    by_case (inr s) = inl s
begun_new tr (Crashed Part.Manager) g b = cc
begun_new tr (Failed f) g b = cc
begun_new tr (Restarted i d n) g b = cc
begun_new tr _ g b = inl b

begun_now_old : (tr : Trace) (g : Gtrid) → Right tr (Begun g) → Old (Then tr (Begun g)) g
begun_now_old tr g r = inr (r.1, omega arith)

pub begun_old_after : (tr : Trace) (e : Happening) (g : Gtrid) → Inv tr → Right tr e → begun (Then tr e) g ≡ true → Old (Then tr e) g
begun_old_after tr e g inv r b = by_case (begun_new tr e g b)
  where
    by_case : (begun tr g ≡ true) ⊎ (e ≡ Begun g) → Old (Then tr e) g
    by_case (inl h) = old_kept tr e g r (inv.begun_old g h)
    by_case (inr h) = subst (λ x. Old (Then tr x) g) (sym h) (begun_now_old tr g (subst (Right tr) h r))

pub started_old_after : (tr : Trace) (e : Happening) (b : Branch) → Inv tr → Right tr e → started (Then tr e) b ≡ true → Old (Then tr e) b.gtrid
started_old_after tr e b inv r s = by_case (started_new tr e b s)
  where
    by_case : (started tr b ≡ true) ⊎ NewBranch e b → Old (Then tr e) b.gtrid
    by_case (inl h) = old_kept tr e b.gtrid r (inv.started_old b h)
    by_case (inr h) =
        let q : Right tr (Issued h.0 (on h.1 b)) = subst (Right tr) h.2 r in
        old_kept tr e b.gtrid r (inv.begun_old b.gtrid (live_begun tr b.gtrid (starting_live tr h.1 b h.3 (right_on tr h.0 h.1 b q.1).may_be)))

pub decided_old_after : (tr : Trace) (e : Happening) (o : Outcome) (g : Gtrid) → Inv tr → Right tr e → decided_so o (Then tr e) g ≡ true → Old (Then tr e) g
decided_old_after tr e o g inv r s = by_case (decided_new tr e o g s)
  where
    by_case : NewDecision tr e o g → Old (Then tr e) g
    by_case (Was_decided h) = old_kept tr e g r (inv.decided_old o g h)
    by_case (By_decide h) = let q : RightDecision tr g o = subst (Right tr) h r in old_kept tr e g r (inv.begun_old g (live_begun tr g q.is_live))
    by_case (By_recovery n h q l) = old_kept tr e g r (inv.begun_old g (live_begun tr g l))

-- what an accepted commit in one phase says
one_phase_call : (tr : Trace) (e : Happening) (l : Line) (b : Branch) → Right tr e → e ≡ Issued l (Calls.Commit b true) → RightCall tr l OnePhase b
one_phase_call tr e l b r h = let q : Right tr (Issued l (Calls.Commit b true)) = subst (Right tr) h r in q.1

pub handed_old_after : (tr : Trace) (e : Happening) (g : Gtrid) → Inv tr → Right tr e → handed_over (Then tr e) g ≡ true → Old (Then tr e) g
handed_old_after tr e g inv r s = by_case (handed_new tr e g s)
  where
    by_case : (handed_over tr g ≡ true) ⊎ ((l : Line) × (b : Branch) × (e ≡ Issued l (Calls.Commit b true)) × (b.gtrid ≡ g)) → Old (Then tr e) g
    by_case (inl h) = old_kept tr e g r (inv.handed_old g h)
    by_case (inr h) = let c = one_phase_call tr e h.0 h.1 r h.2 in old_kept tr e g r (subst (Old tr) h.3 (inv.begun_old _ (live_begun tr _ c.may_be.0.is_live)))

one_phase_started : (tr : Trace) (e : Happening) (l : Line) (d b : Branch) → e ≡ Issued l (Calls.Commit d true)
    → started (Then tr e) b ≡ true → started tr b ≡ true
one_phase_started tr e l d b q s = subst (λ x. started (Then tr x) b ≡ true) q s

pub handed_one_after : (tr : Trace) (e : Happening) (b c : Branch) → Inv tr → Right tr e → handed_over (Then tr e) b.gtrid ≡ true
    → c.gtrid ≡ b.gtrid → started (Then tr e) b ≡ true → started (Then tr e) c ≡ true → b ≡ c
handed_one_after tr e b c inv r h q s t = by_case (handed_new tr e b.gtrid h)
  where
    by_case : (handed_over tr b.gtrid ≡ true) ⊎ ((l : Line) × (d : Branch) × (e ≡ Issued l (Calls.Commit d true)) × (d.gtrid ≡ b.gtrid)) → b ≡ c
    by_case (inl k) =
        let n = (closed_handed tr b.gtrid inv k).not_live in
        inv.handed_one b c k q (started_back tr e b r n s) (started_back tr e c r (ap (live tr) q ∙ n) t)
    by_case (inr k) =
        let only = (one_phase_call tr e k.0 k.1 r k.2).may_be.1 in
        only.1 b (sym k.3) (one_phase_started tr e k.0 k.1 b k.2 s) ∙ sym (only.1 c (q ∙ sym k.3) (one_phase_started tr e k.0 k.1 c k.2 t))

pub not_started_before : (tr : Trace) (e : Happening) (b : Branch) → started (Then tr e) b ≡ false → started tr b ≡ false
not_started_before tr e b n = false_from_ne_true _ (λ s. let k = started_kept tr e b s in cc)

pub unstarted_after : (tr : Trace) (e : Happening) (b : Branch) → Inv tr → Right tr e → started (Then tr e) b ≡ false
    → (standing (Then tr e) b ≡ Unstarted) ⊎ IsOlder (Then tr e) b
unstarted_after tr e b inv r n = by_case (inv.unstarted b m)
  where
    m : started tr b ≡ false
    m = not_started_before tr e b n

    by_case : (standing tr b ≡ Unstarted) ⊎ IsOlder tr b → (standing (Then tr e) b ≡ Unstarted) ⊎ IsOlder (Then tr e) b
    by_case (inl u) = inl (unstarted_moves tr b _ _ (step_move tr e b inv r) m u)
    by_case (inr o) = inr o

pub committed_after : (tr : Trace) (e : Happening) (b : Branch) → Inv tr → Right tr e → standing (Then tr e) b ≡ Committed
    → ((had_row (Then tr e) b.gtrid ≡ true) ⊎ (handed_over (Then tr e) b.gtrid ≡ true)) ⊎ IsOlder (Then tr e) b
committed_after tr e b inv r f = by_case (committed_moves tr b _ _ (step_move tr e b inv r) f)
  where
    kept : (had_row tr b.gtrid ≡ true) ⊎ (handed_over tr b.gtrid ≡ true) → (had_row (Then tr e) b.gtrid ≡ true) ⊎ (handed_over (Then tr e) b.gtrid ≡ true)
    kept (inl h) = inl (rowed_kept tr e b.gtrid h)
    kept (inr h) = inr (handed_kept tr e b.gtrid h)

    was : ((had_row tr b.gtrid ≡ true) ⊎ (handed_over tr b.gtrid ≡ true)) ⊎ IsOlder tr b
        → ((had_row (Then tr e) b.gtrid ≡ true) ⊎ (handed_over (Then tr e) b.gtrid ≡ true)) ⊎ IsOlder (Then tr e) b
    was (inl h) = inl (kept h)
    was (inr o) = inr o

    by_case : (standing tr b ≡ Committed) ⊎ ((had_row tr b.gtrid ≡ true) ⊎ (handed_over tr b.gtrid ≡ true))
        → ((had_row (Then tr e) b.gtrid ≡ true) ⊎ (handed_over (Then tr e) b.gtrid ≡ true)) ⊎ IsOlder (Then tr e) b
    by_case (inl h) = was (inv.committed b h)
    by_case (inr h) = inl (kept h)

-- ** since the start

pub since_start_after : (tr : Trace) (e : Happening) → Inv tr → Right tr e → (origin tr).incarnation ≤ incarnation (Then tr e)
since_start_after tr (Restarted i d n) inv r = let s = inv.since_start in omega (arith, s, r.1)
since_start_after tr _ inv r = inv.since_start

pub begun_since_after : (tr : Trace) (e : Happening) (g : Gtrid) → Inv tr → Right tr e → begun (Then tr e) g ≡ true → (origin tr).incarnation ≤ g.incarnation
begun_since_after tr e g inv r b = by_case (begun_new tr e g b)
  where
    by_case : (begun tr g ≡ true) ⊎ (e ≡ Begun g) → (origin tr).incarnation ≤ g.incarnation
    by_case (inl h) = inv.begun_since g h
    by_case (inr h) = let q : Right tr (Begun g) = subst (Right tr) h r in let s = inv.since_start in let i = q.1 in omega (arith, s, i)

pub started_since_after : (tr : Trace) (e : Happening) (b : Branch) → Inv tr → Right tr e → started (Then tr e) b ≡ true
    → (origin tr).incarnation ≤ b.gtrid.incarnation
started_since_after tr e b inv r s = by_case (started_new tr e b s)
  where
    by_case : (started tr b ≡ true) ⊎ NewBranch e b → (origin tr).incarnation ≤ b.gtrid.incarnation
    by_case (inl h) = inv.started_since b h
    by_case (inr h) =
        let q : Right tr (Issued h.0 (on h.1 b)) = subst (Right tr) h.2 r in
        inv.begun_since b.gtrid (live_begun tr b.gtrid (starting_live tr h.1 b h.3 (right_on tr h.0 h.1 b q.1).may_be))
