-- A manager can start over a log whose rows and records are of its incarnation or earlier ones, and
-- over no other.
use Rattle.std.proofs.Common.{◌≡◌, ℕ, ◌<◌, ◌≤◌, ◌+◌, List, [], ◌∷◌, map, Bool, true, false, ◌&&◌, ◌||◌, Option, Some, None, refl, sym, ap, ◌∙◌, arith, is_lt, Ordering, Less, IsSomeAnd, subst}
use Rattle.std.specs.Prelude.{nat_lt, nat_le}
use Rattle.std.specs.FinMap.{contains_key-keys, entries, entries_sorted, keys}
use Rattle.std.specs.List.{AllByRecursion, list_all, list_any}
use Rattle.std.specs.List.Sorted.{IsStrictlySortedBy}
use Rattle.std.specs.Ordering.{eq_by_cmp}
use Rattle.std.proofs.lemmas.Bool.{and_from, le-leb, lt-ltb, true≢false, or_right}
use Rattle.std.proofs.lemmas.Cmp.{eq_by_cmp_equiv}
use Rattle.xa_base.specs.Branch.{branch_cmp, gtrid_cmp}
use Rattle.xa_base.proofs.BranchOrder.{branches_total, gtrids_total}
use Rattle.xa_base.specs.declared.branch.Branch.{Branch}
use Rattle.xa_base.specs.declared.branch.Gtrid.{Gtrid}
use Rattle.xa_base.specs.declared.code.How.{How}
use Rattle.xa_log.specs.Content.{Content, with_bump, last_number, unchanged}
use Rattle.xa_log.specs.Contract.{AllFit, Makes}
use Rattle.xa_tm.specs.Book.{Book}
use Rattle.xa_log.specs.Starting.{ascends, ascends_behind, can_start, fits_before}
use Rattle.xa_tm.specs.Starting.{IsOld, IsPast, book_at_start}
use Rattle.xa_log.proofs.Rising.{risen}

-- ** lists

sorted_ascends : {X : Type 0} (R : X → X → Ordering) (p : X) (xs : List X)
    → AllByRecursion (λ x. R p x ≡ Less) xs → IsStrictlySortedBy R xs → ascends_behind R (Some p) xs ≡ true
unfolding IsStrictlySortedBy
sorted_ascends R p [] low up = refl
sorted_ascends R p (x ∷ xs) low up =
    and_from (is_lt (R p x)) (ascends_behind R (Some x) xs) (ap is_lt low.0) (sorted_ascends R x xs up.0 up.1)

all_ascend : {X : Type 0} (R : X → X → Ordering) (xs : List X) → IsStrictlySortedBy R xs → ascends R xs ≡ true
unfolding IsStrictlySortedBy
all_ascend R [] up = refl
all_ascend R (x ∷ xs) up = sorted_ascends R x xs up.0 up.1

-- a test that each key passes, of entries
each_entry : {K X : Type 0} (R : K → K → Ordering) (p : K → Bool) (es : List (K × X))
    → ((k : K) → eq_by_cmp R k k ≡ true)
    → ((k : K) → list_any (eq_by_cmp R k) (map (λ (e : K × X). e.0) es) ≡ true → p k ≡ true)
    → list_all (λ (e : K × X). p e.0) es ≡ true
each_entry R p [] same each = refl
each_entry {K = K} {X = X} R p (e ∷ es) same each =
    and_from (p e.0) (list_all (λ (e : K × X). p e.0) es)
    (each e.0 (ap (λ t. t || list_any (eq_by_cmp R e.0) (map (λ (e : K × X). e.0) es)) (same e.0)))
    (each_entry R p es same (λ k has. each k (or_right (eq_by_cmp R k e.0) _ has)))

each_key : {K X : Type 0} (p : K → Bool) (es : List (K × X))
    → list_all (λ (e : K × X). p e.0) es ≡ list_all p (map (λ (e : K × X). e.0) es)
each_key p [] = refl
each_key p (e ∷ es) = ap (λ t. p e.0 && t) (each_key p es)

-- ** a log's rows

fits_next : (i : ℕ) (g : Gtrid) → g.incarnation ≤ i → g.sequence ≤ last_number → fits_before (i + 1) g ≡ true
fits_next i g low fits = and_from (nat_lt g.incarnation (i + 1)) (nat_le g.sequence last_number) (lt-ltb _ _ (omega arith)) (le-leb _ _ fits)

-- over such a log a manager can start
can_start_over : (c : Content) → AllFit c → IsPast c → can_start (c.incarnation + 1) (keys c.decisions) (entries c.heuristics) ≡ true
can_start_over c fits past =
    and_from _ _
    (and_from _ _
    (sym (each_key (fits_before (c.incarnation + 1)) (entries c.decisions))
    ∙ each_entry gtrid_cmp (fits_before (c.incarnation + 1)) (entries c.decisions) (eq_by_cmp_equiv gtrids_total).refl
    (λ g has. let there = contains_key-keys c.decisions g ∙ has in fits_next c.incarnation g (past.rows g there) (fits.decisions g there).1))
    (each_entry branch_cmp (λ (b : Branch). fits_before (c.incarnation + 1) b.gtrid) (entries c.heuristics) (eq_by_cmp_equiv branches_total).refl
    (λ b has. let there = contains_key-keys c.heuristics b ∙ has in fits_next c.incarnation b.gtrid (past.records b there) (fits.heuristics b there).1)))
    (and_from _ _
    (all_ascend gtrid_cmp (keys c.decisions) (risen gtrid_cmp (entries c.decisions) (entries_sorted c.decisions)))
    (all_ascend branch_cmp (map (λ (e : Branch × How). e.0) (entries c.heuristics))
    (risen branch_cmp (entries c.heuristics) (entries_sorted c.heuristics))))

module _ (i : ℕ) (gs : List Gtrid) (hs : List (Branch × How)) where
  -- a manager that can't start has found a row or a record of a later incarnation
  pub not_past : (old mid : Option Content) → IsSomeAnd old (λ c. gs ≡ keys c.decisions) → IsSomeAnd old (λ c. hs ≡ entries c.heuristics)
      → Makes unchanged old mid → IsSomeAnd mid (λ c. i ≡ c.incarnation + 1) → ((c : Content) → old ≡ Some c → AllFit c)
      → can_start i gs hs ≡ false → IsSomeAnd old (λ c. ¬ IsPast c)
  not_past None mid rows ends kept up fits cannot = absurd rows
  not_past (Some c) mid rows ends kept up fits cannot = λ past.
      let next : i ≡ c.incarnation + 1 = (subst (λ m. IsSomeAnd m (λ c. i ≡ c.incarnation + 1)) kept up) in
      true≢false (sym (can_start_over c (fits c refl) past) ∙ (λ j. can_start (sym next j) (sym rows j) (sym ends j)) ∙ cannot)

-- the rows and records of a manager's start are of earlier incarnations than the one that it raised
pub past_of : (t r : ℕ) (k : Book) (old new : Option Content) → Makes with_bump old new
    → IsSomeAnd new (λ c. k ≡ book_at_start t r c) → IsOld k → IsSomeAnd old IsPast
past_of t r k None new made is is_old = absurd made
past_of t r k (Some c) new made is is_old =
    let book : k ≡ book_at_start t r (with_bump c) = subst (λ n. IsSomeAnd n (λ c. k ≡ book_at_start t r c)) made is in
    let before : IsOld (book_at_start t r (with_bump c)) = subst IsOld book is_old in
    record { rows = λ g has. by (before.rows g has); records = λ b has. by (before.records b has) }
  where
    by : {m n : ℕ} → m < n + 1 → m ≤ n
    by h = omega arith
