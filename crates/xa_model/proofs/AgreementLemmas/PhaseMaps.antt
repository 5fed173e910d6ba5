-- From one map of phases to another, a branch at a time.
use Rattle.std.proofs.Common.{◌≡◌, List, [], ◌∷◌, Bool, true, false, refl, sym, ap, ◌∙◌, subst, ◌⊎◌}
use Rattle.std.specs.Prelude.{if◌then◌else◌}
use mathlib.Core.Logic.{◌⊎◌.inl, ◌⊎◌.inr}
use Rattle.xa_model.specs.Trace.{Branch}
use Rattle.xa_base.specs.Branch.{branch_eq}
use Rattle.xa_base.proofs.BranchKeys.{branch_eq-true, branch_eq-refl}
use Rattle.xa_model.specs.Promises.Commitment.{Phase, Phase.Working, Phase.Prepared as Willing, Phase.Committed as Kept, Phase.Aborted, MayGo.Prepares as Becomes_willing, MayGo.Commits as Keeps, MayGo.Aborts, with_phase, Leads, Leads.There, Leads.Step}

-- ** from one map of phases to another, a branch at a time

abbrev pub IsEager : Phase → Type 0
IsEager x = (x ≡ Willing) ⊎ (x ≡ Kept)

-- how one branch changes, with what holds of all members before and after
pub data Change2 (Member : Branch → Type 0) (p q : Branch → Phase) (b : Branch) : Type 0 where
  Same : p b ≡ q b → Change2 Member p q b
  To_willing : p b ≡ Working → q b ≡ Willing → Change2 Member p q b
  To_kept : p b ≡ Willing → q b ≡ Kept → ((c : Branch) → Member c → IsEager (p c) × IsEager (q c)) → Change2 Member p q b
  In_one : p b ≡ Working → q b ≡ Kept → ((c : Branch) → Member c → c ≡ b) → Change2 Member p q b
  To_aborted : (p b ≡ Working) ⊎ (p b ≡ Willing) → q b ≡ Aborted → ((c : Branch) → Member c → (p c ≡ Kept → ⊥) × (q c ≡ Kept → ⊥)) → Change2 Member p q b

abbrev pub Within : List Branch → Branch → Type 0
Within [] c = ⊥
Within (x ∷ xs) c = (x ≡ c) ⊎ Within xs c

abbrev Mixed : (Branch → Type 0) → (p q m : Branch → Phase) → Type 0
Mixed Member p q m = (c : Branch) → Member c → (m c ≡ p c) ⊎ (m c ≡ q c)

abbrev DoneBut : (Branch → Type 0) → (q m : Branch → Phase) → List Branch → Type 0
DoneBut Member q m xs = (c : Branch) → Member c → (m c ≡ q c) ⊎ Within xs c

-- n is m with the branch x changed to what it is in q
record SetTo (q m n : Branch → Phase) (x : Branch) : Type 0 where
  there : n x ≡ q x
  elsewhere : (c : Branch) → (x ≡ c) ⊎ (n c ≡ m c)

set_here : (m : Branch → Phase) (x : Branch) (y : Phase) → with_phase m x y x ≡ y
set_here m x y = ap (λ t. if t then y else m x) (branch_eq-refl x)

set_elsewhere : (m : Branch → Phase) (x : Branch) (y : Phase) (c : Branch) → (x ≡ c) ⊎ (with_phase m x y c ≡ m c)
set_elsewhere m x y c = by_test (branch_eq x c) refl
  where
    by_test : (t : Bool) → branch_eq x c ≡ t → (x ≡ c) ⊎ ((if t then y else m c) ≡ m c)
    by_test true s = inl (branch_eq-true x c s)
    by_test false s = inr refl

set_once : (q m : Branch → Phase) (x : Branch) (y : Phase) → q x ≡ y → SetTo q m (with_phase m x y) x
set_once q m x y e = record { there = set_here m x y ∙ sym e; elsewhere = set_elsewhere m x y }

set_twice : (q m : Branch → Phase) (x : Branch) (y z : Phase) → q x ≡ z → SetTo q m (with_phase (with_phase m x y) x z) x
set_twice q m x y z e =
    record { there = set_here (with_phase m x y) x z ∙ sym e; elsewhere = λ c. by_last c (set_elsewhere (with_phase m x y) x z c) (set_elsewhere m x y c) }
  where
    by_last : (c : Branch) → (x ≡ c) ⊎ (with_phase (with_phase m x y) x z c ≡ with_phase m x y c)
        → (x ≡ c) ⊎ (with_phase m x y c ≡ m c) → (x ≡ c) ⊎ (with_phase (with_phase m x y) x z c ≡ m c)
    by_last c (inl h) k = inl h
    by_last c (inr h) (inl k) = inl k
    by_last c (inr h) (inr k) = inr (h ∙ k)

mixed_set : (Member : Branch → Type 0) (p q m n : Branch → Phase) (x : Branch) → SetTo q m n x → Mixed Member p q m → Mixed Member p q n
mixed_set Member p q m n x s h c k = by_place (s.elsewhere c)
  where
    old : n c ≡ m c → (m c ≡ p c) ⊎ (m c ≡ q c) → (n c ≡ p c) ⊎ (n c ≡ q c)
    old e (inl z) = inl (e ∙ z)
    old e (inr z) = inr (e ∙ z)

    by_place : (x ≡ c) ⊎ (n c ≡ m c) → (n c ≡ p c) ⊎ (n c ≡ q c)
    by_place (inl e) = inr (subst (λ z. n z ≡ q z) e s.there)
    by_place (inr e) = old e (h c k)

done_set : (Member : Branch → Type 0) (q m n : Branch → Phase) (x : Branch) (xs : List Branch) → SetTo q m n x
    → DoneBut Member q m (x ∷ xs) → DoneBut Member q n xs
done_set Member q m n x xs s h c k = by_place (s.elsewhere c)
  where
    here : x ≡ c → (n c ≡ q c) ⊎ Within xs c
    here e = inl (subst (λ z. n z ≡ q z) e s.there)

    old : n c ≡ m c → (m c ≡ q c) ⊎ Within (x ∷ xs) c → (n c ≡ q c) ⊎ Within xs c
    old e (inl z) = inl (e ∙ z)
    old e (inr (inl z)) = here z
    old e (inr (inr z)) = inr z

    by_place : (x ≡ c) ⊎ (n c ≡ m c) → (n c ≡ q c) ⊎ Within xs c
    by_place (inl e) = here e
    by_place (inr e) = old e (h c k)

done_skip : (Member : Branch → Type 0) (q m : Branch → Phase) (x : Branch) (xs : List Branch) → (Member x → m x ≡ q x)
    → DoneBut Member q m (x ∷ xs) → DoneBut Member q m xs
done_skip Member q m x xs f h c k = by_place (h c k)
  where
    by_place : (m c ≡ q c) ⊎ Within (x ∷ xs) c → (m c ≡ q c) ⊎ Within xs c
    by_place (inl z) = inl z
    by_place (inr (inl z)) = inl (subst (λ y. m y ≡ q y) z (f (subst Member (sym z) k)))
    by_place (inr (inr z)) = inr z

eager_mix : (p q m : Phase) → IsEager p × IsEager q → (m ≡ p) ⊎ (m ≡ q) → IsEager m
eager_mix p q m h (inl e) = subst IsEager (sym e) h.0
eager_mix p q m h (inr e) = subst IsEager (sym e) h.1

kept_mix : (p q m : Phase) → (p ≡ Kept → ⊥) × (q ≡ Kept → ⊥) → (m ≡ p) ⊎ (m ≡ q) → m ≡ Kept → ⊥
kept_mix p q m h (inl e) k = h.0 (sym e ∙ k)
kept_mix p q m h (inr e) k = h.1 (sym e ∙ k)

pub still : (p m : Phase) → m ≡ p → (p ≡ Working) ⊎ (p ≡ Willing) → (m ≡ Working) ⊎ (m ≡ Willing)
still p m e (inl h) = inl (e ∙ h)
still p m e (inr h) = inr (e ∙ h)

-- the branch x goes next, where it is not yet as in q
go : (Member : Branch → Type 0) (p q m : Branch → Phase) (x : Branch) (xs : List Branch) → Member x → m x ≡ p x
    → Change2 Member p q x → Mixed Member p q m → DoneBut Member q m (x ∷ xs)
    → ((n : Branch → Phase) → Mixed Member p q n → DoneBut Member q n xs → Leads Member q n) → Leads Member q m
go Member p q m x xs k e (Same s) mx d rec = rec m mx (done_skip Member q m x xs (λ z. e ∙ s) d)
go Member p q m x xs k e (To_willing a b) mx d rec =
    let s = set_once q m x Willing b in
    Step m x Willing k (Becomes_willing (e ∙ a)) (rec _ (mixed_set Member p q m _ x s mx) (done_set Member q m _ x xs s d))
go Member p q m x xs k e (To_kept a b f) mx d rec =
    let s = set_once q m x Kept b in
    Step m x Kept k (Keeps (e ∙ a) (λ c z. eager_mix (p c) (q c) (m c) (f c z) (mx c z)))
    (rec _ (mixed_set Member p q m _ x s mx) (done_set Member q m _ x xs s d))
go Member p q m x xs k e (In_one a b f) mx d rec =
    let s = set_twice q m x Willing Kept b in
    let n = with_phase m x Willing in
    Step m x Willing k (Becomes_willing (e ∙ a))
    (Step n x Kept k (Keeps (set_here m x Willing) (λ c z. inl (ap n (f c z) ∙ set_here m x Willing)))
    (rec _ (mixed_set Member p q m _ x s mx) (done_set Member q m _ x xs s d)))
go Member p q m x xs k e (To_aborted a b f) mx d rec =
    let s = set_once q m x Aborted b in
    Step m x Aborted k (Aborts (still (p x) (m x) e a) (λ c z. kept_mix (p c) (q c) (m c) (f c z) (mx c z)))
    (rec _ (mixed_set Member p q m _ x s mx) (done_set Member q m _ x xs s d))

go_or_skip : (Member : Branch → Type 0) (p q m : Branch → Phase) (x : Branch) (xs : List Branch) → Member x
    → (m x ≡ p x) ⊎ (m x ≡ q x) → Change2 Member p q x → Mixed Member p q m → DoneBut Member q m (x ∷ xs)
    → ((n : Branch → Phase) → Mixed Member p q n → DoneBut Member q n xs → Leads Member q n) → Leads Member q m
go_or_skip Member p q m x xs k (inl e) c mx d rec = go Member p q m x xs k e c mx d rec
go_or_skip Member p q m x xs k (inr e) c mx d rec = rec m mx (done_skip Member q m x xs (λ z. e) d)

pub all_go : (Member : Branch → Type 0) (p q : Branch → Phase) → ((x : Branch) → Member x ⊎ (Member x → ⊥))
    → ((x : Branch) → Member x → Change2 Member p q x) → (xs : List Branch) (m : Branch → Phase) → Mixed Member p q m → DoneBut Member q m xs → Leads Member q m
all_go Member p q dec f [] m mx d = There m (λ c k. none c (d c k))
  where
    none : (c : Branch) → (m c ≡ q c) ⊎ ⊥ → m c ≡ q c
    none c (inl e) = e
    none c (inr e) = absurd e
all_go Member p q dec f (x ∷ xs) m mx d = by_member (dec x) (λ n nx nd. all_go Member p q dec f xs n nx nd)
  where
    by_member : Member x ⊎ (Member x → ⊥) → ((n : Branch → Phase) → Mixed Member p q n → DoneBut Member q n xs → Leads Member q n) → Leads Member q m
    by_member (inl k) rec = go_or_skip Member p q m x xs k (mx x k) (f x k) mx d rec
    by_member (inr k) rec = rec m mx (done_skip Member q m x xs (λ z. absurd (k z)) d)
