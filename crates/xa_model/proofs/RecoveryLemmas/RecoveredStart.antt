-- What a whole recovery has to do, once its page is resolved.
use Rattle.std.proofs.Common.{◌≡◌, ℕ, suc, List, [], ◌∷◌, ◌++◌, Bool, true, false, ◌&&◌, refl, sym, ap, ◌∙◌, subst, arith, ◌⊎◌}
use Rattle.std.specs.Prelude.{cond, map, filter, nat_eq, None, Contains}
use Rattle.std.specs.BTreeSet.{insert_key}
use Rattle.std.specs.declared.cmp.Ordering.{Ordering}
use Rattle.std.specs.declared.cmp.Ordering.TheVariants.{Less, Equal, Greater}
use Rattle.std.specs.Ordering.{match_ordering}
use mathlib.Core.Logic.{◌⊎◌.inl, ◌⊎◌.inr}
use Rattle.std.proofs.lemmas.Bool.{and_parts, eq-eqb, or_cases}
use Rattle.xa_base.specs.Branch.{xid_of_branch, branch_of_xid, branch_eq, IsBranch}
use Rattle.xa_base.specs.Standing.{is_in_doubt}
use Rattle.xa_base.specs.Xid.{Xid}
use Rattle.xa_base.specs.declared.state.Standing.TheVariants.{Prepared}
use Rattle.xa_base.proofs.XidOrder.{xid_cmp_exact}
use Rattle.xa_model.specs.Facts.{origin, branches, started, has_branch, standing}
use Rattle.xa_model.specs.Replies.History.{name_of}
use Rattle.xa_model.specs.Facts.InDoubt.{xid_of_name, name_cmp, in_order, is_in_doubt_at, is_still_in_doubt, in_doubt}
use Rattle.xa_model.specs.Protocol.{RightOrigin, AllRight}
use Rattle.xa_model.specs.Trace.{Branch, Name, Name.Ours, Name.Foreign, Trace, Trace.From, Trace.Then}
use Rattle.xa_base.proofs.BranchKeys.{branch_eq-true}
use Rattle.xa_model.proofs.NameLemmas.OwnNames.{own_name, foreign_name}
use Rattle.xa_model.proofs.RecoveryLemmas.Pages.{Each, each_append, each_in_order}
use Rattle.xa_model.proofs.Invariant.Preservation.{never_started}
use Rattle.xa_model.proofs.Invariant.PreservedRows.{started_listed}
use Rattle.xa_model.proofs.RecoveryLemmas.WholeRecovery.{In}

-- ** what is in doubt is listed

pub has_in : (bs : List Branch) (b : Branch) → has_branch bs b ≡ true → In bs b
has_in [] b h = absurd (cc)
has_in (x ∷ bs) b h = by_place (or_cases _ _ h) (has_in bs b)
  where
    by_place : (branch_eq x b ≡ true) ⊎ (has_branch bs b ≡ true) → (has_branch bs b ≡ true → In bs b) → (x ≡ b) ⊎ In bs b
    by_place (inl s) f = inl (branch_eq-true x b s)
    by_place (inr s) f = inr (f s)

pub in_filtered : (test : Branch → Bool) (bs : List Branch) (b : Branch) → In bs b → test b ≡ true → In (filter test bs) b
in_filtered test [] b i t = absurd i
in_filtered test (x ∷ bs) b i t = by_test (test x) refl i (in_filtered test bs b)
  where
    by_test : (u : Bool) → test x ≡ u → (x ≡ b) ⊎ In bs b → (In bs b → test b ≡ true → In (filter test bs) b)
        → In (cond u (x ∷ filter test bs) (filter test bs)) b
    by_test true q (inl e) f = inl e
    by_test true q (inr k) f = inr (f k t)
    by_test false q (inl e) f = absurd (clash (ap test e))
      where
        clash : test x ≡ test b → ⊥
        clash s = cc
    by_test false q (inr k) f = f k t

pub in_mapped : (bs : List Branch) (b : Branch) → In bs b → In (map (λ c. Ours c) bs) (Ours b)
in_mapped [] b i = absurd i
in_mapped (x ∷ bs) b (inl e) = inl (ap (λ c. Ours c) e)
in_mapped (x ∷ bs) b (inr i) = inr (in_mapped bs b i)

pub in_behind : (xs ys : List Name) (n : Name) → In ys n → In (xs ++ ys) n
in_behind [] ys n i = i
in_behind (x ∷ xs) ys n i = inr (in_behind xs ys n i)

-- some name of a list has the identifier
abbrev pub HasXid : List Name → Xid → Type 0
HasXid names v = (n : Name) × In names n × (xid_of_name n ≡ v)

pub has_more : (x : Name) (xs : List Name) (v : Xid) → HasXid xs v → HasXid (x ∷ xs) v
has_more x xs v h = (h.0, inr h.1, h.2)

pub insert_new : (xs : List Name) (y : Name) → HasXid (insert_key name_cmp xs y) (xid_of_name y)
insert_new [] y = (y, inl refl, refl)
insert_new (x ∷ xs) y = by_order (name_cmp y x) refl (insert_new xs y)
  where
    by_order : (o : Ordering) → name_cmp y x ≡ o → HasXid (insert_key name_cmp xs y) (xid_of_name y)
        → HasXid (match_ordering o (y ∷ x ∷ xs) (x ∷ xs) (x ∷ insert_key name_cmp xs y)) (xid_of_name y)
    by_order Less q h = (y, inl refl, refl)
    by_order Equal q h = (x, inl refl, sym (xid_cmp_exact (xid_of_name y) (xid_of_name x) q))
    by_order Greater q h = has_more x (insert_key name_cmp xs y) (xid_of_name y) h

pub insert_old : (xs : List Name) (y : Name) (v : Xid) → HasXid xs v → HasXid (insert_key name_cmp xs y) v
insert_old [] y v h = absurd h.1
insert_old (x ∷ xs) y v h = by_order (name_cmp y x) (λ k. insert_old xs y v k)
  where
    by_order : (o : Ordering) → (HasXid xs v → HasXid (insert_key name_cmp xs y) v)
        → HasXid (match_ordering o (y ∷ x ∷ xs) (x ∷ xs) (x ∷ insert_key name_cmp xs y)) v
    by_order Less f = has_more y (x ∷ xs) v h
    by_order Equal f = h
    by_order Greater f = by_place h.1
      where
        by_place : (x ≡ h.0) ⊎ In xs h.0 → HasXid (x ∷ insert_key name_cmp xs y) v
        by_place (inl e) = (h.0, inl e, h.2)
        by_place (inr i) = has_more x (insert_key name_cmp xs y) v (f (h.0, i, h.2))

pub in_order_has : (xs : List Name) (n : Name) → In xs n → HasXid (in_order xs) (xid_of_name n)
in_order_has [] n i = absurd i
in_order_has (x ∷ xs) n (inl e) = subst (λ m. HasXid (in_order (x ∷ xs)) (xid_of_name m)) e (insert_new (in_order xs) x)
in_order_has (x ∷ xs) n (inr i) = insert_old (in_order xs) x (xid_of_name n) (in_order_has xs n i)

-- ** and only that

-- a name is known for what it is
abbrev pub IsKnownName : Trace → Name → Type 0
IsKnownName t (Ours b) = started t b ≡ true
IsKnownName t (Foreign x) = branch_of_xid x ≡ None

pub origin_right : (t : Trace) → AllRight t → RightOrigin (origin t)
origin_right (From o) r = r
origin_right (Then t e) r = origin_right t r.0

pub foreign_known : (t : Trace) (r : ℕ) (xs : List Xid) → ((x : Xid) → In xs x → branch_of_xid x ≡ None)
    → Each (IsKnownName t) (filter (is_still_in_doubt t r) (map name_of xs))
foreign_known t r [] f = tt
foreign_known t r (x ∷ xs) f =
    subst (λ (n : Name). Each (IsKnownName t) (filter (is_still_in_doubt t r) (n ∷ map name_of xs))) (sym (foreign_name x none))
    (none, foreign_known t r xs (λ y i. f y (inr i)))
  where
    none : branch_of_xid x ≡ None
    none = f x (inl refl)

pub contains_in : (xs : List Xid) (x : Xid) → In xs x → Contains xs x
contains_in [] x i = absurd i
contains_in (y ∷ xs) x (inl e) = (0, omega arith, e)
contains_in (y ∷ xs) x (inr i) = let k = contains_in xs x i in (suc k.0, omega (arith, k.1), k.2)

pub own_known : (t : Trace) (r : ℕ) (bs : List Branch) → ((b : Branch) → is_in_doubt (standing t b) ≡ true → started t b ≡ true)
    → Each (IsKnownName t) (map (λ b. Ours b) (filter (is_in_doubt_at t r) bs))
own_known t r [] f = tt
own_known t r (b ∷ bs) f = by_test (is_in_doubt_at t r b) refl (own_known t r bs f)
  where
    by_test : (u : Bool) → is_in_doubt_at t r b ≡ u → Each (IsKnownName t) (map (λ c. Ours c) (filter (is_in_doubt_at t r) bs))
        → Each (IsKnownName t) (map (λ c. Ours c) (cond u (b ∷ filter (is_in_doubt_at t r) bs) (filter (is_in_doubt_at t r) bs)))
    by_test true q k = (f b (and_parts _ _ q).1, k)
    by_test false q k = k

pub in_doubt_started : (t : Trace) (b : Branch) → AllRight t → is_in_doubt (standing t b) ≡ true → started t b ≡ true
in_doubt_started t b a h = by_test (started t b) refl
  where
    by_test : (u : Bool) → started t b ≡ u → u ≡ true
    by_test true s = refl
    by_test false s = let k = sym (ap is_in_doubt (never_started t b a s)) ∙ h in absurd (cc)

pub all_known : (t : Trace) (r : ℕ) → AllRight t → Each (IsKnownName t) (in_doubt t r)
all_known t r a =
    each_in_order (IsKnownName t) _
    (each_append (IsKnownName t) _ _ (foreign_known t r ((origin t).in_doubt r) (λ x i. (origin_right t a).foreign r x (contains_in _ x i)))
    (own_known t r (branches t) (λ b. in_doubt_started t b a)))

pub each_in : (P : Name → Type 0) (xs : List Name) (n : Name) → Each P xs → In xs n → P n
each_in P [] n h i = absurd i
each_in P (x ∷ xs) n h (inl e) = subst P e h.0
each_in P (x ∷ xs) n h (inr i) = each_in P xs n h.1 i

-- a prepared branch is listed, as itself
pub listed : (t : Trace) (r : ℕ) (b : Branch) → AllRight t → ((c : Branch) → started t c ≡ true → IsBranch c) → b.rm ≡ r
    → standing t b ≡ Prepared → In (in_doubt t r) (Ours b)
listed t r b a f q s = as_itself h.0 h.1 h.2 (each_in (IsKnownName t) (in_doubt t r) h.0 (all_known t r a) h.1)
  where
    doubt : is_in_doubt (standing t b) ≡ true
    doubt = ap is_in_doubt s

    b_started : started t b ≡ true
    b_started = in_doubt_started t b a doubt

    passes : is_in_doubt_at t r b ≡ true
    passes = λ i. (here i && doubt i)
      where
        here : nat_eq b.rm r ≡ true
        here = eq-eqb b.rm r q

    h : HasXid (in_doubt t r) (xid_of_branch b)
    h = in_order_has _ (Ours b) (in_behind (filter (is_still_in_doubt t r) (map name_of ((origin t).in_doubt r))) _ (Ours b)
        (in_mapped _ b (in_filtered (is_in_doubt_at t r) (branches t) b (has_in (branches t) b (started_listed t b b_started)) passes)))

    as_itself : (n : Name) → In (in_doubt t r) n → xid_of_name n ≡ xid_of_branch b → IsKnownName t n → In (in_doubt t r) (Ours b)
    as_itself (Ours c) i e k = subst (In (in_doubt t r)) (sym (own_name c (f c k)) ∙ (ap name_of e ∙ own_name b (f b b_started))) i
    as_itself (Foreign x) i e k = absurd (foreign_own (sym (own_name b (f b b_started)) ∙ (ap name_of (sym e) ∙ foreign_name x k)))
      where
        foreign_own : {c : Branch} {y : Xid} → Ours c ≡ Foreign y → ⊥
        foreign_own e = cc
