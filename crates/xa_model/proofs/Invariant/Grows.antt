-- One happening more: what stays, and what may be new.
use Rattle.std.proofs.Common.{◌≡◌, ◌∙◌, ℕ, Bool, true, false, not, ◌&&◌, ◌||◌, refl, ap, arith, ◌⊎◌}
use mathlib.Core.Logic.{◌⊎◌.inl, ◌⊎◌.inr}
use Rattle.std.proofs.lemmas.Bool.{and_parts, false_from_ne_true, or_right}
use Rattle.xa_base.specs.declared.call.Call.TheVariants as Calls
use Rattle.xa_base.specs.StateTable.{on}
use Rattle.xa_model.specs.Trace.{Kind, Gtrid, Branch, Line, Kind.Start, Kind.Join, Call, Answer, Outcome, Happening, Happening.Begun, Happening.Issued, Happening.ResolvedOpen, Happening.Claimed, Happening.Heard, Happening.Decided, Happening.Crashed, Happening.Failed, Happening.Restarted, Trace, Trace.Then}
use Rattle.xa_base.specs.declared.step.Part.TheVariants as Part
use Rattle.xa_base.specs.Branch.{gtrid_eq, branch_eq}
use Rattle.xa_model.specs.Promises.AgreementInvariant.{Starts}
use Rattle.xa_model.specs.Facts.{claimed, begun, decided_so, handed_over, live, started, was_told}
use Rattle.xa_model.specs.Protocol.{Right}
use Rattle.xa_model.proofs.Invariant.{Old, Closed}
use Rattle.xa_base.proofs.BranchKeys.{gtrid_eq-true, branch_eq-true}

-- ** numbers of transactions

pub old_kept : (tr : Trace) (e : Happening) (g : Gtrid) → Right tr e → Old tr g → Old (Then tr e) g
old_kept tr (Begun h) g r (inl o) = inl o
old_kept tr (Begun h) g r (inr o) = inr (o.0, omega arith)
old_kept tr (Restarted i d n) g r (inl o) = inl (omega arith)
old_kept tr (Restarted i d n) g r (inr o) = inl (omega arith)
old_kept tr _ g r o = o

not_next : (tr : Trace) (g h : Gtrid) → Right tr (Begun h) → Old tr g → gtrid_eq h g ≡ true → ⊥
not_next tr g h r (inl o) e = let s = gtrid_eq-true h g e in let i = ap (λ (x : Gtrid). x.incarnation) s in omega arith
not_next tr g h r (inr o) e = let s = gtrid_eq-true h g e in let i = ap (λ (x : Gtrid). x.sequence) s in omega arith

pub live_back : (tr : Trace) (e : Happening) (g : Gtrid) → Right tr e → Old tr g → live (Then tr e) g ≡ true → live tr g ≡ true
live_back tr (Begun h) g r o l = begun_case (gtrid_eq h g) refl l
  where
    begun_case : (t : Bool) → gtrid_eq h g ≡ t
        → ((t || begun tr g) && not (decided_so Outcome.Commit tr g || (decided_so Outcome.Rollback tr g || handed_over tr g))) ≡ true → live tr g ≡ true
    begun_case true s l = absurd (not_next tr g h r o s)
    begun_case false s l = l
live_back tr (Issued m (Calls.Commit b true)) g r o l = grind arith
live_back tr (Decided h Outcome.Commit) g r o l = grind arith
live_back tr (Decided h Outcome.Rollback) g r o l = grind arith
live_back tr (ResolvedOpen n) g r o l = grind arith
live_back tr (Crashed Part.Manager) g r o l = cc
live_back tr (Failed f) g r o l = cc
live_back tr (Restarted i d n) g r o l = cc
live_back tr _ g r o l = l

pub closed_kept : (tr : Trace) (e : Happening) (g : Gtrid) → Right tr e → Closed tr g → Closed (Then tr e) g
closed_kept tr e g r c =
    record { old = old_kept tr e g r c.old; not_live = false_from_ne_true _ (λ l. let m = live_back tr e g r c.old l in let n = c.not_live in cc) }

-- ** facts that stay

pub started_kept : (tr : Trace) (e : Happening) (b : Branch) → started tr b ≡ true → started (Then tr e) b ≡ true
started_kept tr (Issued l (Calls.Start c false)) b h = or_right _ _ h
started_kept tr (Issued l (Calls.Start c true)) b h = or_right _ _ h
started_kept tr _ b h = h

-- it is an accepted xa_start of the branch
abbrev pub NewBranch : Happening → Branch → Type 0
NewBranch e b = (l : Line) × (k : Kind) × (e ≡ Issued l (on k b)) × Starts k

pub started_new : (tr : Trace) (e : Happening) (b : Branch) → started (Then tr e) b ≡ true → (started tr b ≡ true) ⊎ NewBranch e b
started_new tr (Issued l (Calls.Start c false)) b h = new_case (branch_eq c b) refl h
  where
    new_case : (t : Bool) → branch_eq c b ≡ t → (t || started tr b) ≡ true → (started tr b ≡ true) ⊎ NewBranch (Issued l (Calls.Start c false)) b
    new_case true s h = inr (l, Start, ap (λ x. Issued l (Calls.Start x false)) (branch_eq-true c b s), tt)
    new_case false s h = inl h
started_new tr (Issued l (Calls.Start c true)) b h = new_case (branch_eq c b) refl h
  where
    new_case : (t : Bool) → branch_eq c b ≡ t → (t || started tr b) ≡ true → (started tr b ≡ true) ⊎ NewBranch (Issued l (Calls.Start c true)) b
    new_case true s h = inr (l, Join, ap (λ x. Issued l (Calls.Start x true)) (branch_eq-true c b s), tt)
    new_case false s h = inl h
started_new tr _ b h = inl h

pub handed_kept : (tr : Trace) (e : Happening) (g : Gtrid) → handed_over tr g ≡ true → handed_over (Then tr e) g ≡ true
handed_kept tr (Issued l (Calls.Commit c true)) g h = or_right _ _ h
handed_kept tr _ g h = h

pub handed_new : (tr : Trace) (e : Happening) (g : Gtrid) → handed_over (Then tr e) g ≡ true
    → (handed_over tr g ≡ true) ⊎ ((l : Line) × (b : Branch) × (e ≡ Issued l (Calls.Commit b true)) × (b.gtrid ≡ g))
handed_new tr (Issued l (Calls.Commit c true)) g h = new_case (gtrid_eq c.gtrid g) refl h
  where
    new_case : (t : Bool) → gtrid_eq c.gtrid g ≡ t → (t || handed_over tr g) ≡ true
        → (handed_over tr g ≡ true) ⊎ ((m : Line) × (b : Branch) × (Issued l (Calls.Commit c true) ≡ Issued m (Calls.Commit b true)) × (b.gtrid ≡ g))
    new_case true s h = inr (l, c, refl, gtrid_eq-true _ _ s)
    new_case false s h = inl h
handed_new tr _ g h = inl h

-- why a transaction is decided
pub data NewDecision (tr : Trace) (e : Happening) (o : Outcome) (g : Gtrid) : Type 0 where
  Was_decided : decided_so o tr g ≡ true → NewDecision tr e o g
  By_decide : e ≡ Decided g o → NewDecision tr e o g
  By_recovery : (r : ℕ) → e ≡ ResolvedOpen r → o ≡ Outcome.Rollback → live tr g ≡ true → NewDecision tr e o g

given_up : (l b c d h t : Bool) → t ≡ false → ((l && (b && not (c || (d || h)))) || t) ≡ true → (b && not (d || (t || h))) ≡ true
given_up l b c d h t p q = grind arith

pub decided_new : (tr : Trace) (e : Happening) (o : Outcome) (g : Gtrid) → decided_so o (Then tr e) g ≡ true → NewDecision tr e o g
decided_new tr (ResolvedOpen r) Outcome.Rollback g k = by_test (decided_so Outcome.Rollback tr g) refl
  where
    by_test : (t : Bool) → decided_so Outcome.Rollback tr g ≡ t → NewDecision tr (ResolvedOpen r) Outcome.Rollback g
    by_test true q = Was_decided q
    by_test false q =
        By_recovery r refl refl (given_up _ _ (claimed tr g) (decided_so Outcome.Commit tr g) (handed_over tr g) (decided_so Outcome.Rollback tr g) q k)
decided_new tr (Decided h Outcome.Commit) Outcome.Commit g k = new_case (gtrid_eq h g) refl k
  where
    new_case : (t : Bool) → gtrid_eq h g ≡ t → (t || decided_so Outcome.Commit tr g) ≡ true → NewDecision tr (Decided h Outcome.Commit) Outcome.Commit g
    new_case true s k = By_decide (ap (λ x. Decided x Outcome.Commit) (gtrid_eq-true _ _ s))
    new_case false s k = Was_decided k
decided_new tr (Decided h Outcome.Rollback) Outcome.Rollback g k = new_case (gtrid_eq h g) refl k
  where
    new_case : (t : Bool) → gtrid_eq h g ≡ t → (t || decided_so Outcome.Rollback tr g) ≡ true → NewDecision tr (Decided h Outcome.Rollback) Outcome.Rollback g
    new_case true s k = By_decide (ap (λ x. Decided x Outcome.Rollback) (gtrid_eq-true _ _ s))
    new_case false s k = Was_decided k
decided_new tr _ Outcome.Commit g k = Was_decided k
decided_new tr _ Outcome.Rollback g k = Was_decided k

-- ** claims

pub claimed_new : (tr : Trace) (e : Happening) (g : Gtrid) → claimed (Then tr e) g ≡ true → (claimed tr g ≡ true) ⊎ (e ≡ Claimed g)
claimed_new tr (Claimed h) g k = new_case (gtrid_eq h g) refl k
  where
    new_case : (t : Bool) → gtrid_eq h g ≡ t → (t || claimed tr g) ≡ true → (claimed tr g ≡ true) ⊎ (Claimed h ≡ Claimed g)
    new_case true s k = inr (ap (λ x. Claimed x) (gtrid_eq-true _ _ s))
    new_case false s k = inl k
claimed_new tr (Decided h o) g k = inl (and_parts _ _ k).1
claimed_new tr (Crashed Part.Manager) g k = absurd (cc)
claimed_new tr (Failed f) g k = absurd (cc)
claimed_new tr (Restarted i d n) g k = absurd (cc)
claimed_new tr _ g k = inl k

pub both : (t : Bool) → t ≡ true → t ≡ false → ⊥
both t p q = cc

spared : (l b c d e h : Bool) → c ≡ true → (b && not (d || (e || h))) ≡ true → (b && not (d || (((l && (b && not (c || (d || h)))) || e) || h))) ≡ true
spared l b c d e h p q = grind arith

-- a claimed transaction stays live while its claim lasts
pub live_kept : (tr : Trace) (e : Happening) (g : Gtrid) → Right tr e → claimed tr g ≡ true → claimed (Then tr e) g ≡ true
    → live tr g ≡ true → live (Then tr e) g ≡ true
live_kept tr (Begun h) g r c k l = grind arith
live_kept tr (Issued m (Calls.Commit b true)) g r c k l = by_test (gtrid_eq b.gtrid g) refl
  where
    by_test : (t : Bool) → gtrid_eq b.gtrid g ≡ t
        → (begun tr g && not (decided_so Outcome.Commit tr g || (decided_so Outcome.Rollback tr g || (t || handed_over tr g)))) ≡ true
    by_test true s = absurd (both (claimed tr b.gtrid) (ap (claimed tr) (gtrid_eq-true b.gtrid g s) ∙ c) r.1.may_be.0.unclaimed)
    by_test false s = l
live_kept tr (Decided h Outcome.Commit) g r c k l = by_test (gtrid_eq h g) k
  where
    by_test : (t : Bool) → (not t && claimed tr g) ≡ true
        → (begun tr g && not ((t || decided_so Outcome.Commit tr g) || (decided_so Outcome.Rollback tr g || handed_over tr g))) ≡ true
    by_test true k = absurd (cc)
    by_test false k = l
live_kept tr (Decided h Outcome.Rollback) g r c k l = by_test (gtrid_eq h g) k
  where
    by_test : (t : Bool) → (not t && claimed tr g) ≡ true
        → (begun tr g && not (decided_so Outcome.Commit tr g || ((t || decided_so Outcome.Rollback tr g) || handed_over tr g))) ≡ true
    by_test true k = absurd (cc)
    by_test false k = l
live_kept tr (ResolvedOpen n) g r c k l =
    spared _ (begun tr g) (claimed tr g) (decided_so Outcome.Commit tr g) (decided_so Outcome.Rollback tr g) (handed_over tr g) c l
live_kept tr (Crashed Part.Manager) g r c k l = absurd (cc)
live_kept tr (Failed f) g r c k l = absurd (cc)
live_kept tr (Restarted i d n) g r c k l = absurd (cc)
live_kept tr _ g r c k l = l

pub told_kept : (tr : Trace) (e : Happening) (test : Call → Answer → Bool) → was_told tr test ≡ true → was_told (Then tr e) test ≡ true
told_kept tr (Heard l c a) test h = or_right _ _ h
told_kept tr _ test h = h

pub told_new : (tr : Trace) (e : Happening) (test : Call → Answer → Bool) → was_told (Then tr e) test ≡ true
    → (was_told tr test ≡ true) ⊎ ((l : Line) × (c : Call) × (a : Answer) × (e ≡ Heard l c a) × (test c a ≡ true))
told_new tr (Heard l c a) test h = new_case (test c a) refl h
  where
    new_case : (t : Bool) → test c a ≡ t → (t || was_told tr test) ≡ true
        → (was_told tr test ≡ true) ⊎ ((m : Line) × (d : Call) × (b : Answer) × (Heard l c a ≡ Heard m d b) × (test d b ≡ true))
    new_case true s h = inr (l, c, a, refl, s)
    new_case false s h = inl h
told_new tr _ test h = inl h
