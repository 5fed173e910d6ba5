-- Logs that have the same rows and records, after the same changes.
use Rattle.std.proofs.Common.{◌≡◌, ℕ, suc, ◌+◌, ◌≤◌, List, [], ◌∷◌, ◌++◌, length, Bool, true, false, ◌&&◌, ◌||◌, ◌==◌, refl, sym, ap, ◌∙◌, subst, arith, ◌⊎◌}
use Rattle.std.specs.Prelude.{cond, filter, if◌then◌else◌}
use mathlib.Core.Logic.{◌⊎◌.inl, ◌⊎◌.inr}
use Rattle.std.proofs.lemmas.Bool.{and_parts, or_cases, or_left, or_right}
use Rattle.xa_base.specs.Branch.{gtrid_eq, branch_eq}
use Rattle.xa_base.proofs.BranchKeys.{gtrid_eq-true, gtrid_eq-refl, branch_eq-true, branch_eq-refl}
use Rattle.xa_model.specs.Trace.{Gtrid, Branch, Row, Recorded}
use Rattle.xa_model.specs.Facts.{lists_row, without, without_each, participants_in, has_branch, has_record, with_record, rows_changed, heuristics_changed, each, each_of_some, Change, Change.AddRows, Change.DropRows, Change.AddRecord, Change.NoChange}
use Rattle.xa_model.specs.Promises.Processes.{row_count, SameRows, SameRecords}

-- ** rows that are listed

none_counted : (xs : List Row) (g : Gtrid) → lists_row xs g ≡ false → row_count xs g ≡ 0
none_counted [] g e = refl
none_counted (x ∷ xs) g e = by_test (gtrid_eq x.gtrid g) e (none_counted xs g)
  where
    by_test : (t : Bool) → (t || lists_row xs g) ≡ false → (lists_row xs g ≡ false → row_count xs g ≡ 0)
        → length (cond t (x ∷ filter (λ y. gtrid_eq y.gtrid g) xs) (filter (λ y. gtrid_eq y.gtrid g) xs)) ≡ 0
    by_test true e f = absurd (cc)
    by_test false e f = f e

some_counted : (xs : List Row) (g : Gtrid) → lists_row xs g ≡ true → 1 ≤ row_count xs g
some_counted [] g e = absurd (cc)
some_counted (x ∷ xs) g e = by_test (gtrid_eq x.gtrid g) e (some_counted xs g)
  where
    by_test : (t : Bool) → (t || lists_row xs g) ≡ true → (lists_row xs g ≡ true → 1 ≤ row_count xs g)
        → 1 ≤ length (cond t (x ∷ filter (λ y. gtrid_eq y.gtrid g) xs) (filter (λ y. gtrid_eq y.gtrid g) xs))
    by_test true e f = omega arith
    by_test false e f = f e

pub same_listed : (xs ys : List Row) → SameRows xs ys → (g : Gtrid) → lists_row xs g ≡ lists_row ys g
same_listed xs ys s g = by_tests (lists_row xs g) refl (lists_row ys g) refl
  where
    by_tests : (t : Bool) → lists_row xs g ≡ t → (u : Bool) → lists_row ys g ≡ u → t ≡ u
    by_tests true p true q = refl
    by_tests false p false q = refl
    by_tests true p false q = let m = some_counted xs g p in let n = none_counted ys g q in let c = s.count g in absurd (omega (arith, m, n, c))
    by_tests false p true q = let m = none_counted xs g p in let n = some_counted ys g q in let c = s.count g in absurd (omega (arith, m, n, c))

-- ** one row more, or one fewer

pub rows_cons : (x : Row) (xs ys : List Row) → SameRows xs ys → SameRows (x ∷ xs) (x ∷ ys)
rows_cons x xs ys s = record {
  number = ap (λ n. suc n) s.number;
  count = λ g. counted g (gtrid_eq x.gtrid g);
  participants = λ g b. waiting g b (gtrid_eq x.gtrid g);
}
  where
    counted : (g : Gtrid) (t : Bool)
        → length (cond t (x ∷ filter (λ y. gtrid_eq y.gtrid g) xs) (filter (λ y. gtrid_eq y.gtrid g) xs))
        ≡ length (cond t (x ∷ filter (λ y. gtrid_eq y.gtrid g) ys) (filter (λ y. gtrid_eq y.gtrid g) ys))
    counted g true = ap (λ n. suc n) (s.count g)
    counted g false = s.count g

    waiting : (g : Gtrid) (b : Branch) (t : Bool)
        → has_branch (if t then x.participants else participants_in xs g) b ≡ has_branch (if t then x.participants else participants_in ys g) b
    waiting g b true = refl
    waiting g b false = s.participants g b

without_number : (h : Gtrid) (xs : List Row) → length (without h xs) + row_count xs h ≡ length xs
without_number h [] = refl
without_number h (x ∷ xs) = by_test (gtrid_eq x.gtrid h) (without_number h xs)
  where
    by_test : (t : Bool) → length (without h xs) + row_count xs h ≡ length xs
        → length (if t then without h xs else x ∷ without h xs)
        + length (cond t (x ∷ filter (λ y. gtrid_eq y.gtrid h) xs) (filter (λ y. gtrid_eq y.gtrid h) xs)) ≡ length (x ∷ xs)
    by_test true f = omega (arith, f)
    by_test false f = omega (arith, f)

count_without : (h g : Gtrid) (xs : List Row) → row_count (without h xs) g ≡ (if gtrid_eq h g then 0 else row_count xs g)
count_without h g [] = by_test (gtrid_eq h g)
  where
    by_test : (v : Bool) → ◌≡◌ {A = ℕ} 0 (if v then 0 else 0)
    by_test true = refl
    by_test false = refl
count_without h g (x ∷ xs) = by_tests (gtrid_eq x.gtrid h) refl (gtrid_eq x.gtrid g) refl (gtrid_eq h g) refl (count_without h g xs)
  where
    same : gtrid_eq x.gtrid h ≡ true → gtrid_eq x.gtrid g ≡ gtrid_eq h g
    same p = ap (λ k. gtrid_eq k g) (gtrid_eq-true x.gtrid h p)

    other : gtrid_eq x.gtrid g ≡ true → gtrid_eq h g ≡ true → gtrid_eq x.gtrid h ≡ true
    other p q = ap (λ k. gtrid_eq k h) (gtrid_eq-true x.gtrid g p ∙ sym (gtrid_eq-true h g q)) ∙ gtrid_eq-refl h

    clash : {t : Bool} → t ≡ true → t ≡ false → ⊥
    clash p q = cc

    by_tests : (t : Bool) → gtrid_eq x.gtrid h ≡ t → (u : Bool) → gtrid_eq x.gtrid g ≡ u → (v : Bool) → gtrid_eq h g ≡ v
        → row_count (without h xs) g ≡ (if v then 0 else row_count xs g)
        → row_count (if t then without h xs else x ∷ without h xs) g
        ≡ (if v then 0 else length (cond u (x ∷ filter (λ y. gtrid_eq y.gtrid g) xs) (filter (λ y. gtrid_eq y.gtrid g) xs)))
    by_tests true p u q true r f = f
    by_tests true p true q false r f = absurd (clash (sym (same p) ∙ q) r)
    by_tests true p false q false r f = f
    by_tests false p u q v r f =
        ap (λ k. length (cond k (x ∷ filter (λ y. gtrid_eq y.gtrid g) (without h xs)) (filter (λ y. gtrid_eq y.gtrid g) (without h xs)))) q
        ∙ by_rest u v q r f
      where
        by_rest : (u v : Bool) → gtrid_eq x.gtrid g ≡ u → gtrid_eq h g ≡ v → row_count (without h xs) g ≡ (if v then 0 else row_count xs g)
            → length (cond u (x ∷ filter (λ y. gtrid_eq y.gtrid g) (without h xs)) (filter (λ y. gtrid_eq y.gtrid g) (without h xs)))
            ≡ (if v then 0 else length (cond u (x ∷ filter (λ y. gtrid_eq y.gtrid g) xs) (filter (λ y. gtrid_eq y.gtrid g) xs)))
        by_rest true true q r f = absurd (clash (other q r) p)
        by_rest true false q r f = ap (λ n. suc n) f
        by_rest false true q r f = f
        by_rest false false q r f = f

participants_without : (h g : Gtrid) (xs : List Row) → participants_in (without h xs) g ≡ (if gtrid_eq h g then [] else participants_in xs g)
participants_without h g [] = by_test (gtrid_eq h g)
  where
    by_test : (v : Bool) → ◌≡◌ {A = List Branch} [] (if v then [] else [])
    by_test true = refl
    by_test false = refl
participants_without h g (x ∷ xs) = by_tests (gtrid_eq x.gtrid h) refl (gtrid_eq x.gtrid g) refl (gtrid_eq h g) refl (participants_without h g xs)
  where
    same : gtrid_eq x.gtrid h ≡ true → gtrid_eq x.gtrid g ≡ gtrid_eq h g
    same p = ap (λ k. gtrid_eq k g) (gtrid_eq-true x.gtrid h p)

    other : gtrid_eq x.gtrid g ≡ true → gtrid_eq h g ≡ true → gtrid_eq x.gtrid h ≡ true
    other p q = ap (λ k. gtrid_eq k h) (gtrid_eq-true x.gtrid g p ∙ sym (gtrid_eq-true h g q)) ∙ gtrid_eq-refl h

    clash : {t : Bool} → t ≡ true → t ≡ false → ⊥
    clash p q = cc

    by_tests : (t : Bool) → gtrid_eq x.gtrid h ≡ t → (u : Bool) → gtrid_eq x.gtrid g ≡ u → (v : Bool) → gtrid_eq h g ≡ v
        → participants_in (without h xs) g ≡ (if v then [] else participants_in xs g)
        → participants_in (if t then without h xs else x ∷ without h xs) g
        ≡ (if v then [] else if u then x.participants else participants_in xs g)
    by_tests true p u q true r f = f
    by_tests true p true q false r f = absurd (clash (sym (same p) ∙ q) r)
    by_tests true p false q false r f = f
    by_tests false p u q v r f = ap (λ k. if k then x.participants else participants_in (without h xs) g) q ∙ by_rest u v q r f
      where
        by_rest : (u v : Bool) → gtrid_eq x.gtrid g ≡ u → gtrid_eq h g ≡ v → participants_in (without h xs) g ≡ (if v then [] else participants_in xs g)
            → (if u then x.participants else participants_in (without h xs) g) ≡ (if v then [] else if u then x.participants else participants_in xs g)
        by_rest true true q r f = absurd (clash (other q r) p)
        by_rest true false q r f = refl
        by_rest false true q r f = f
        by_rest false false q r f = f

pub rows_without : (h : Gtrid) (xs ys : List Row) → SameRows xs ys → SameRows (without h xs) (without h ys)
rows_without h xs ys s = record {
  number =
      let m = without_number h xs in let n = without_number h ys in let l = s.number in let c = s.count h in omega (arith, m, n, l, c);
  count = λ g. count_without h g xs ∙ (ap (λ n. if gtrid_eq h g then 0 else n) (s.count g) ∙ sym (count_without h g ys));
  participants = λ g b.
      ap (λ bs. has_branch bs b) (participants_without h g xs) ∙ (by_test g b (gtrid_eq h g) ∙ sym (ap (λ bs. has_branch bs b) (participants_without h g ys)));
}
  where
    by_test : (g : Gtrid) (b : Branch) (t : Bool)
        → has_branch (if t then [] else participants_in xs g) b ≡ has_branch (if t then [] else participants_in ys g) b
    by_test g b true = refl
    by_test g b false = s.participants g b

rows_joined : (rows xs ys : List Row) → SameRows xs ys → SameRows (rows ++ xs) (rows ++ ys)
rows_joined [] xs ys s = s
rows_joined (x ∷ rows) xs ys s = rows_cons x (rows ++ xs) (rows ++ ys) (rows_joined rows xs ys s)

rows_without_each : (gs : List Gtrid) (xs ys : List Row) → SameRows xs ys → SameRows (without_each gs xs) (without_each gs ys)
rows_without_each [] xs ys s = s
rows_without_each (g ∷ gs) xs ys s = rows_without_each gs (without g xs) (without g ys) (rows_without g xs ys s)

-- ** changes

pub rows_after_change : (c : Change) (xs ys : List Row) → SameRows xs ys → SameRows (rows_changed c xs) (rows_changed c ys)
rows_after_change (AddRows rows) xs ys s = rows_joined rows xs ys s
rows_after_change (DropRows gs) xs ys s = rows_without_each gs xs ys s
rows_after_change (AddRecord x) xs ys s = s
rows_after_change NoChange xs ys s = s

pub rows_found : (d : ℕ) (c : Change) (xs ys : List Row) → SameRows xs ys
    → SameRows (if d == length xs then xs else rows_changed c xs) (if d == length ys then ys else rows_changed c ys)
rows_found d c xs ys s =
    subst (λ n. SameRows (if d == length xs then xs else rows_changed c xs) (if d == n then ys else rows_changed c ys)) s.number (by_test (d == length xs))
  where
    by_test : (t : Bool) → SameRows (if t then xs else rows_changed c xs) (if t then ys else rows_changed c ys)
    by_test true = s
    by_test false = rows_after_change c xs ys s

pub rows_again : (xs ys zs : List Row) → SameRows xs ys → SameRows ys zs → SameRows xs zs
rows_again xs ys zs s t = record {
  number = s.number ∙ t.number;
  count = λ g. s.count g ∙ t.count g;
  participants = λ g b. s.participants g b ∙ t.participants g b;
}

-- ** records

with_same : (x : Recorded) (xs ys : List Recorded) → SameRecords xs ys → SameRecords (with_record x xs) (with_record x ys)
with_same x xs ys s =
    subst (λ t. SameRecords (with_record x xs) (if t then ys else x ∷ ys)) (s.branches x.branch) (by_test (has_record xs x.branch))
  where
    by_test : (t : Bool) → SameRecords (if t then xs else x ∷ xs) (if t then ys else x ∷ ys)
    by_test true = s
    by_test false = record { number = ap (λ n. suc n) s.number; branches = λ b. ap (λ t. branch_eq x.branch b || t) (s.branches b) }

pub records_after_change : (c : Change) (xs ys : List Recorded) → SameRecords xs ys → SameRecords (heuristics_changed c xs) (heuristics_changed c ys)
records_after_change (AddRecord x) xs ys s = with_same x xs ys s
records_after_change (AddRows rows) xs ys s = s
records_after_change (DropRows gs) xs ys s = s
records_after_change NoChange xs ys s = s

pub records_found : (n : ℕ) (c : Change) (xs ys : List Recorded) → SameRecords xs ys
    → SameRecords (if n == length xs then xs else heuristics_changed c xs) (if n == length ys then ys else heuristics_changed c ys)
records_found n c xs ys s =
    subst (λ k. SameRecords (if n == length xs then xs else heuristics_changed c xs) (if n == k then ys else heuristics_changed c ys)) s.number
    (by_test (n == length xs))
  where
    by_test : (t : Bool) → SameRecords (if t then xs else heuristics_changed c xs) (if t then ys else heuristics_changed c ys)
    by_test true = s
    by_test false = records_after_change c xs ys s

pub records_again : (xs ys zs : List Recorded) → SameRecords xs ys → SameRecords ys zs → SameRecords xs zs
records_again xs ys zs s t = record { number = s.number ∙ t.number; branches = λ b. s.branches b ∙ t.branches b }

-- ** participants

each_at : (f : Branch → Bool) (bs : List Branch) (b : Branch) → each f bs ≡ true → has_branch bs b ≡ true → f b ≡ true
each_at f [] b h k = absurd (cc)
each_at f (x ∷ bs) b h k = by_place (or_cases _ _ k) (each_at f bs b (and_parts _ _ h).1)
  where
    by_place : (branch_eq x b ≡ true) ⊎ (has_branch bs b ≡ true) → (has_branch bs b ≡ true → f b ≡ true) → f b ≡ true
    by_place (inl s) r = sym (ap f (branch_eq-true x b s)) ∙ (and_parts _ _ h).0
    by_place (inr s) r = r s

each_of : (f : Branch → Bool) (bs : List Branch) → ((b : Branch) → has_branch bs b ≡ true → f b ≡ true) → each f bs ≡ true
each_of f [] h = refl
each_of f (x ∷ bs) h =
    let first = h x (or_left _ _ (branch_eq-refl x)) in let rest = each_of f bs (λ b k. h b (or_right _ _ k)) in (λ i. first i && rest i)

-- the same branches pass the same test
pub each_of_some_same : (f g : Branch → Bool) (bs cs : List Branch) → ((b : Branch) → f b ≡ g b) → ((b : Branch) → has_branch bs b ≡ has_branch cs b)
    → each_of_some f bs ≡ true → each_of_some g cs ≡ true
each_of_some_same f g [] cs e s h = absurd (cc)
each_of_some_same f g (x ∷ bs) [] e s h = absurd (none (sym (or_left _ _ (branch_eq-refl x)) ∙ s x))
  where
    none : true ≡ false → ⊥
    none q = cc
each_of_some_same f g (x ∷ bs) (y ∷ cs) e s h =
    each_of g (y ∷ cs) (λ b k. sym (e b) ∙ each_at f (x ∷ bs) b h (s b ∙ k))
