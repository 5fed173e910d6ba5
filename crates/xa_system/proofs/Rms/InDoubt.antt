-- What a resource manager has in doubt is what the history says.
use Rattle.std.proofs.Common.{◌≡◌, ◌≢◌, ◌^◌, ◌⊎◌, inl, inr, ℕ, List, [], ◌∷◌, ◌++◌, map, Bool, true, false, refl, sym, ap, ◌∙◌, subst, arith}
use Rattle.std.specs.Prelude.{cond, filter, if◌then◌else◌, Contains, Option, Some, None, nat_eq}
use Rattle.std.specs.Cmp.{on_total}
use Rattle.std.specs.List.Sorted.{IsStrictlySortedBy}
use Rattle.std.proofs.lemmas.Bool.{and_parts, cases_Bool, cases_lt, eqb-true, true≢false}
use Rattle.std.proofs.lemmas.Bool.Decides.{eqb_tells}
use Rattle.xa_base.specs.Branch.{IsBranch, branch_of_xid, xid_of_branch}
use Rattle.xa_model.specs.Facts as facts
use Rattle.xa_base.specs.HeldBranch.{HeldBranch, new_branch}
use Rattle.xa_model.specs.Replies.History.{name_of}
use Rattle.xa_model.specs.Facts.InDoubt.{in_doubt, in_order, is_in_doubt_at, is_still_in_doubt, name_by, name_cmp, xid_of_name}
use Rattle.xa_model.specs.Promises.Processes.{ListsFound}
use Rattle.xa_base.specs.Recover.{IsInDoubtList}
use Rattle.xa_base.specs.Standing.{is_in_doubt}
use Rattle.xa_model.specs.Trace.{Name, Name.Foreign, Name.Ours, Origin, Trace}
use Rattle.xa_base.specs.Xid.{Xid, xid_cmp, xid_cmp_total, xid_eq}
use Rattle.xa_base.specs.declared.branch.Branch.{Branch}
use Rattle.xa_model.proofs.NameLemmas.OwnNames.{foreign_name, own_name}
use Rattle.xa_model.proofs.RecoveryLemmas.Pages as pages
use Rattle.xa_model.proofs.RecoveryLemmas.WholeRecovery.{In}
use Rattle.xa_model.proofs.RecoveryLemmas.RecoveredStart.{HasXid, contains_in, each_in, in_order_has}
use Rattle.xa_model.proofs.RecoveryLemmas.RecoveredNext.{doubtful_fits, doubtful_listed, in_contains}
use Rattle.xa_base.proofs.XidOrder.{xid_eq-refl, xid_eq-same}
use Rattle.xa_system.specs.RmInHistory.{BeginsOver, BranchesStand, IsOther, IsOwnAt}
use Rattle.xa_system.specs.Trace.{IsKept}
use Rattle.xa_system.proofs.Order.{in_mapped_back, in_mapped_by, same_sorted, sorted_inserted, sorted_mapped}
use Rattle.xa_system.proofs.Rms.Pages.{started_fits}

-- ** identifiers of this manager's branches

ours_is : (b c : Branch) → Ours b ≡ Ours c → b ≡ c
ours_is b c e = cc

-- a branch has one identifier
pub same_branch : (b c : Branch) → IsBranch b → IsBranch c → xid_of_branch b ≡ xid_of_branch c → b ≡ c
same_branch b c h k e = ours_is b c (sym (own_name b h) ∙ ap name_of e ∙ own_name c k)

named_by : (x : Xid) (b : Branch) → IsBranch b → x ≡ xid_of_branch b → name_of x ≡ Ours b
named_by x b h e = ap name_of e ∙ own_name b h

numbers_fit : (b : Branch) → IsBranch b ⊎ (IsBranch b → ⊥)
numbers_fit b =
    elim (cases_lt b.gtrid.incarnation (2 ^ 64)) [
      | inr past ↦ inr (λ h. absurd (omega (arith, h.incarnation)))
      | inl incarnation ↦ (elim (cases_lt b.gtrid.sequence (2 ^ 64)) [
        | inr past ↦ inr (λ h. absurd (omega (arith, h.sequence)))
        | inl sequence ↦ (elim (cases_lt b.thread (2 ^ 32)) [
          | inr past ↦ inr (λ h. absurd (omega (arith, h.thread)))
          | inl thread ↦ (elim (cases_lt b.rm (2 ^ 32)) [
            | inr past ↦ inr (λ h. absurd (omega (arith, h.rm)))
            | inl rm ↦ inl (record { incarnation = incarnation; sequence = sequence; thread = thread; rm = rm })
          ])
        ])
      ])
    ]

-- an identifier names a branch at the resource manager, or none
foreign_other : (r : ℕ) (x : Xid) → ((b : Branch) → name_of x ≡ Ours b → IsBranch b → b.rm ≡ r → x ≡ xid_of_branch b → ⊥) → IsOther r x
foreign_other r x f b h at e = f b (named_by x b h e) h at e

pub own_or_other : (r : ℕ) (x : Xid) → IsOwnAt r x ⊎ IsOther r x
own_or_other r x = by_name (name_of x) refl
  where
    by_name : (n : Name) → name_of x ≡ n → IsOwnAt r x ⊎ IsOther r x
    by_name (Foreign y) e = inr (foreign_other r x (λ b d h at is. let no : Ours b ≡ Foreign y = sym d ∙ e in absurd (cc)))
    by_name (Ours b) e = by_fit (numbers_fit b) (eqb_tells b.rm r) (cases_Bool (xid_eq x (xid_of_branch b)))
      where
        same : (c : Branch) → name_of x ≡ Ours c → c ≡ b
        same c d = ours_is c b (sym d ∙ e)

        by_fit : IsBranch b ⊎ (IsBranch b → ⊥) → ((nat_eq b.rm r ≡ true) × (b.rm ≡ r)) ⊎ ((nat_eq b.rm r ≡ false) × (b.rm ≢ r))
            → (xid_eq x (xid_of_branch b) ≡ true) ⊎ (xid_eq x (xid_of_branch b) ≡ false) → IsOwnAt r x ⊎ IsOther r x
        by_fit (inr unfit) q s = inr (foreign_other r x (λ c d h at is. unfit (subst IsBranch (same c d) h)))
        by_fit (inl h) (inr w) s = inr (foreign_other r x (λ c d k at is. w.1 (ap (λ (z : Branch). z.rm) (sym (same c d)) ∙ at)))
        by_fit (inl h) (inl w) (inl s) = inl (b, h, w.1, xid_eq-same x (xid_of_branch b) s)
        by_fit (inl h) (inl w) (inr s) = inr (foreign_other r x (λ c d k at is.
            let back : xid_eq x (xid_of_branch b) ≡ true = ap (λ z. xid_eq x (xid_of_branch z)) (sym (same c d)) ∙ ap (xid_eq x) (sym is) ∙ xid_eq-refl x in
            absurd (true≢false (sym back ∙ s))))

-- ** lists of names

-- a start lists each branch that it found in doubt
pub lists_found : (o : Origin) → ((r : ℕ) → IsInDoubtList (o.held r) (o.in_doubt r)) → ListsFound o
lists_found o listed b e = by_fit (facts.fits b) refl
  where
    by_fit : (t : Bool) → facts.fits b ≡ t → Contains (o.in_doubt b.rm) (xid_of_branch b)
    by_fit true q =
        let held_so = ap (λ u. (if u then o.held b.rm (xid_of_branch b) else new_branch).standing) q in
        ((listed b.rm).listed (xid_of_branch b)).1 (sym (ap is_in_doubt held_so) ∙ e)
    by_fit false q =
        let none = ap (λ u. (if u then o.held b.rm (xid_of_branch b) else new_branch).standing) q in
        absurd (true≢false (sym e ∙ ap is_in_doubt none))

names_sorted : (names : List Name) → IsStrictlySortedBy name_cmp (in_order names)
unfolding IsStrictlySortedBy
names_sorted [] = tt
names_sorted (x ∷ xs) = sorted_inserted name_cmp (on_total xid_of_name xid_cmp_total) x (in_order xs) (names_sorted xs)

module _ (tr : Trace) (r : ℕ) (held : Xid → HeldBranch) (kept : IsKept tr) (over : BeginsOver (facts.origin tr)) (stand : BranchesStand tr r held) where
  IsDoubtful : Name → Type 0
  IsDoubtful n = is_in_doubt (held (xid_of_name n)).standing ≡ true

  has_numbers : (b : Branch) → facts.started tr b ≡ true → IsBranch b
  has_numbers b = started_fits tr b kept

  -- a branch that is in doubt here is held so
  own_doubtful : (b : Branch) → is_in_doubt_at tr r b ≡ true → IsDoubtful (Ours b)
  unfolding IsDoubtful
  own_doubtful b e =
      let parts = and_parts _ _ e in
      ap is_in_doubt (stand.own b (doubtful_fits tr kept.run has_numbers b parts.1) (eqb-true b.rm r parts.0)).standing ∙ parts.1

  -- another manager's identifier that was in doubt still is
  foreign_doubtful : (x : Xid) → branch_of_xid x ≡ None → Contains ((facts.origin tr).in_doubt r) x → IsDoubtful (Foreign x)
  unfolding IsDoubtful
  foreign_doubtful x none listed = stand.others x other ∙ ((over.listed r).listed x).0 listed
    where
      other : IsOther r x
      other b h at e =
          let two : Ours b ≡ Foreign x = sym (named_by x b h e) ∙ foreign_name x none in
          absurd (cc)

  -- so it is with each that was found in doubt and still is
  found_doubtful_here : (xs : List Xid) → ((x : Xid) → In xs x → In ((facts.origin tr).in_doubt r) x)
      → pages.Each IsDoubtful (filter (is_still_in_doubt tr r) (map name_of xs))
  found_doubtful_here [] f = tt
  found_doubtful_here (x ∷ xs) f = by_branch (branch_of_xid x) refl (found_doubtful_here xs (λ y i. f y (inr i)))
    where
      by_test : (b : Branch) (t : Bool) → is_in_doubt_at tr r b ≡ t → pages.Each IsDoubtful (filter (is_still_in_doubt tr r) (map name_of xs))
          → pages.Each IsDoubtful (cond t (Ours b ∷ filter (is_still_in_doubt tr r) (map name_of xs)) (filter (is_still_in_doubt tr r) (map name_of xs)))
      by_test b true e k = (own_doubtful b e, k)
      by_test b false e k = k

      by_branch : (o : Option Branch) → branch_of_xid x ≡ o → pages.Each IsDoubtful (filter (is_still_in_doubt tr r) (map name_of xs))
          → pages.Each IsDoubtful (filter (is_still_in_doubt tr r) (name_by x (branch_of_xid x) ∷ map name_of xs))
      by_branch (Some b) e k =
          subst (λ p. pages.Each IsDoubtful (filter (is_still_in_doubt tr r) (name_by x p ∷ map name_of xs))) (sym e)
          (by_test b (is_in_doubt_at tr r b) refl k)
      by_branch None e k =
          subst (λ p. pages.Each IsDoubtful (filter (is_still_in_doubt tr r) (name_by x p ∷ map name_of xs))) (sym e)
          (foreign_doubtful x e (contains_in ((facts.origin tr).in_doubt r) x (f x (inl refl))), k)

  branch_doubtful : (bs : List Branch) → pages.Each IsDoubtful (map (λ b. Ours b) (filter (is_in_doubt_at tr r) bs))
  branch_doubtful [] = tt
  branch_doubtful (b ∷ bs) = by_test (is_in_doubt_at tr r b) refl (branch_doubtful bs)
    where
      by_test : (t : Bool) → is_in_doubt_at tr r b ≡ t
          → pages.Each IsDoubtful (map (λ c. Ours c) (filter (is_in_doubt_at tr r) bs))
          → pages.Each IsDoubtful (map (λ c. Ours c) (cond t (b ∷ filter (is_in_doubt_at tr r) bs) (filter (is_in_doubt_at tr r) bs)))
      by_test true e k = (own_doubtful b e, k)
      by_test false e k = k

  all_doubtful : pages.Each IsDoubtful (in_doubt tr r)
  all_doubtful =
      pages.each_in_order IsDoubtful _ (pages.each_append IsDoubtful _ _ (found_doubtful_here ((facts.origin tr).in_doubt r) (λ x i. i))
      (branch_doubtful (facts.branches tr)))

  -- what the history has in doubt is held so
  doubtful_held : (x : Xid) → In (map xid_of_name (in_doubt tr r)) x → is_in_doubt (held x).standing ≡ true
  unfolding IsDoubtful
  doubtful_held x i =
      let h = in_mapped_back xid_of_name (in_doubt tr r) x i in
      ap (λ y. is_in_doubt (held y).standing) (sym h.2) ∙ each_in IsDoubtful (in_doubt tr r) h.0 all_doubtful h.1

  has_of : (x : Xid) → HasXid (in_doubt tr r) x → In (map xid_of_name (in_doubt tr r)) x
  has_of x h = subst (In (map xid_of_name (in_doubt tr r))) h.2 (in_mapped_by xid_of_name (in_doubt tr r) h.0 h.1)

  own_listed : (b : Branch) → b.rm ≡ r → is_in_doubt (facts.standing tr b) ≡ true → HasXid (in_doubt tr r) (xid_of_branch b)
  own_listed b at e = (Ours b, doubtful_listed tr kept.run has_numbers r b (lists_found (facts.origin tr) over.listed) (over.still b) at e, refl)

  foreign_in : (xs : List Xid) (ys : List Name) (x : Xid) → branch_of_xid x ≡ None → In xs x
      → In (filter (is_still_in_doubt tr r) (map name_of xs) ++ ys) (Foreign x)
  foreign_in [] ys x none i = absurd i
  foreign_in (y ∷ xs) ys x none (inl e) =
      subst (λ (n : Name). In (filter (is_still_in_doubt tr r) (n ∷ map name_of xs) ++ ys) (Foreign x)) (sym (ap name_of e ∙ foreign_name x none))
      (inl refl)
  foreign_in (y ∷ xs) ys x none (inr i) = by_test (is_still_in_doubt tr r (name_of y)) (foreign_in xs ys x none i)
    where
      by_test : (t : Bool) → In (filter (is_still_in_doubt tr r) (map name_of xs) ++ ys) (Foreign x)
          → In (cond t (name_of y ∷ filter (is_still_in_doubt tr r) (map name_of xs)) (filter (is_still_in_doubt tr r) (map name_of xs)) ++ ys) (Foreign x)
      by_test true k = inr k
      by_test false k = k

  other_listed : (x : Xid) → IsOther r x → is_in_doubt (held x).standing ≡ true → HasXid (in_doubt tr r) x
  other_listed x other e =
      let listed = ((over.listed r).listed x).1 (sym (stand.others x other) ∙ e) in
      elim (over.home r x listed) [
        | inl own ↦ absurd (other own.0 own.1 own.2 own.3)
        | inr none ↦ in_order_has _ (Foreign x) (foreign_in ((facts.origin tr).in_doubt r) _ x none (in_contains _ x listed))
      ]

  -- and what is held in doubt is so in the history
  held_doubtful : (x : Xid) → is_in_doubt (held x).standing ≡ true → In (map xid_of_name (in_doubt tr r)) x
  held_doubtful x e =
      has_of x (elim (own_or_other r x) [
        | inl own ↦ (
            let b = own.0 in
            let held_so : is_in_doubt (facts.standing tr b) ≡ true =
            ap is_in_doubt (sym (stand.own b own.1 own.2).standing) ∙ ap (λ y. is_in_doubt (held y).standing) (sym own.3) ∙ e in
            subst (HasXid (in_doubt tr r)) (sym own.3) (own_listed b own.2 held_so))
        | inr other ↦ other_listed x other e
      ])

  -- the identifiers in doubt are those of the history's names
  pub same_in_doubt : (xids : List Xid) → IsInDoubtList held xids → xids ≡ map xid_of_name (in_doubt tr r)
  same_in_doubt xids list =
      same_sorted xid_cmp xid_cmp_total xids (map xid_of_name (in_doubt tr r)) list.in_order
      (sorted_mapped xid_of_name xid_cmp (in_doubt tr r)
      (names_sorted (filter (is_still_in_doubt tr r) (map name_of ((facts.origin tr).in_doubt r))
      ++ map (λ b. Ours b) (filter (is_in_doubt_at tr r) (facts.branches tr)))))
      (λ x i. held_doubtful x ((list.listed x).0 (contains_in xids x i)))
      (λ x i. in_contains xids x ((list.listed x).1 (doubtful_held x i)))
