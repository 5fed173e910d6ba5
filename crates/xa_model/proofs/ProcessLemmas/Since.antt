-- What a history says of transactions that are begun later: nothing.
use Rattle.std.proofs.Common.{◌≡◌, ◌<◌, Bool, true, false, ◌||◌, refl, sym, ◌∙◌, subst, arith, ◌⊎◌}
use Rattle.std.proofs.lemmas.Bool.{false_from_ne_true, or_cases}
use mathlib.Core.Logic.{◌⊎◌.inl, ◌⊎◌.inr}
use Rattle.xa_base.proofs.BranchKeys.{gtrid_eq-true, branch_eq-refl}
use Rattle.xa_base.specs.declared.answer.Answer.TheVariants.{Ret}
use Rattle.xa_base.specs.declared.call.Call.TheVariants as Calls
use Rattle.xa_base.specs.declared.code.Code.TheVariants as Codes
use Rattle.xa_model.specs.Facts.{incarnation, decided_so, handed_over, started, was_told, says_yes, says_yes_in, standing, branches, has_branch}
use Rattle.xa_model.specs.Trace.{Gtrid, Branch, Call, Answer, Outcome, Happening.Heard, Trace, Trace.From, Trace.Then}
use Rattle.xa_model.proofs.Invariant.{HasBegun, IsOlder, Old, Inv}
use Rattle.xa_model.proofs.Invariant.Now.{begun_or_older, older_closed}
use Rattle.xa_model.proofs.AgreementLemmas.Distinct.{branches_listed}

-- the transaction is of an incarnation after all of the history
abbrev pub IsLater : Trace → Gtrid → Type 0
IsLater past g = incarnation past < g.incarnation

not_old : (past : Trace) (g : Gtrid) → IsLater past g → Old past g → ⊥
not_old past g n (inl o) = omega arith
not_old past g n (inr o) = let i = o.0 in omega arith

pub none_decided : (past : Trace) (o : Outcome) (g : Gtrid) → Inv past → IsLater past g → decided_so o past g ≡ false
none_decided past o g inv n = false_from_ne_true _ (λ h. not_old past g n (inv.decided_old o g h))

pub none_handed : (past : Trace) (g : Gtrid) → Inv past → IsLater past g → handed_over past g ≡ false
none_handed past g inv n = false_from_ne_true _ (λ h. not_old past g n (inv.handed_old g h))

pub none_started : (past : Trace) (b : Branch) → Inv past → IsLater past b.gtrid → started past b ≡ false
none_started past b inv n = false_from_ne_true _ (λ h. not_old past b.gtrid n (inv.started_old b h))

pub none_listed : (past : Trace) (b : Branch) → Inv past → IsLater past b.gtrid → has_branch (branches past) b ≡ false
none_listed past b inv n = branches_listed past b ∙ none_started past b inv n

none_has_begun : (past : Trace) (b : Branch) → Inv past → IsLater past b.gtrid → HasBegun (standing past b) → ⊥
none_has_begun past b inv n h = by_case (begun_or_older past b inv h)
  where
    by_case : (started past b ≡ true) ⊎ IsOlder past b → ⊥
    by_case (inl s) = not_old past b.gtrid n (inv.started_old b s)
    by_case (inr o) = not_old past b.gtrid n (older_closed past b inv o).old

pub none_said_yes : (past : Trace) (b : Branch) → Inv past → IsLater past b.gtrid → was_told past (says_yes b) ≡ false
none_said_yes past b inv n = false_from_ne_true _ (λ h. none_has_begun past b inv n (inv.voted_yes b h).has_begun)

-- a yes in a transaction is of one of its branches
yes_by : (g : Gtrid) (c : Call) (a : Answer) → says_yes_in g c a ≡ true → (b : Branch) × (b.gtrid ≡ g) × (says_yes b c a ≡ true)
yes_by g (Calls.Prepare c) (Ret Codes.Success) h = (c, gtrid_eq-true c.gtrid g h, branch_eq-refl c)
yes_by g _ _ h = absurd (cc)

yes_of : (tr : Trace) (g : Gtrid) → was_told tr (says_yes_in g) ≡ true → (b : Branch) × (b.gtrid ≡ g) × (was_told tr (says_yes b) ≡ true)
yes_of (From o) g h = absurd (cc)
yes_of (Then tr (Heard l c a)) g h = by_case (or_cases _ _ h) (yes_of tr g)
  where
    more : (b : Branch) (s t : Bool) → (s ≡ true) ⊎ (t ≡ true) → (s || t) ≡ true
    more b true t k = refl
    more b false t (inl k) = absurd (cc)
    more b false t (inr k) = k

    by_case : (says_yes_in g c a ≡ true) ⊎ (was_told tr (says_yes_in g) ≡ true)
        → (was_told tr (says_yes_in g) ≡ true → (b : Branch) × (b.gtrid ≡ g) × (was_told tr (says_yes b) ≡ true))
        → (b : Branch) × (b.gtrid ≡ g) × ((says_yes b c a || was_told tr (says_yes b)) ≡ true)
    by_case (inl k) f = let y = yes_by g c a k in (y.0, y.1, more y.0 _ _ (inl y.2))
    by_case (inr k) f = let y = f k in (y.0, y.1, more y.0 _ _ (inr y.2))
yes_of (Then tr _) g h = yes_of tr g h

pub none_said_yes_in : (past : Trace) (g : Gtrid) → Inv past → IsLater past g → was_told past (says_yes_in g) ≡ false
none_said_yes_in past g inv n =
    false_from_ne_true _ (λ h. let y = yes_of past g h in both _ y.2 (none_said_yes past y.0 inv (subst (IsLater past) (sym y.1) n)))
  where
    both : (t : Bool) → t ≡ true → t ≡ false → ⊥
    both t p q = cc
