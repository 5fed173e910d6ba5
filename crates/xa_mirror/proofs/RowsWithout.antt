-- Lists of rows without those of one transaction.
use Rattle.std.proofs.Common.{◌≡◌, ◌≤◌, List, [], ◌∷◌, ◌++◌, length, map, Bool, true, false, ◌||◌, refl, sym, ap, ◌∙◌, subst, arith}
use Rattle.std.specs.Prelude.{if◌then◌else◌}
use Rattle.xa_base.proofs.BranchKeys.{gtrid_eq-true}
use Rattle.xa_base.specs.Branch.{gtrid_eq}
use Rattle.xa_mirror.specs.HistoryWithout.{others}
use Rattle.xa_model.specs.Facts.{Change, Change.AddRecord, Change.AddRows, Change.DropRows, Change.NoChange, has_gtrid, heuristics_changed, lists_row, participants_in, row_for, rows_changed, without, without_each}
use Rattle.xa_model.specs.Trace.{Gtrid, Recorded, Row, Trace}

clash : {t : Bool} → t ≡ true → t ≡ false → ⊥
clash p q = cc

-- another transaction than the one that is left out
apart_from : (x g h : Gtrid) → gtrid_eq x g ≡ true → gtrid_eq h g ≡ false → gtrid_eq x h ≡ true → ⊥
apart_from x g h p q r = clash (ap (λ k. gtrid_eq k g) (sym (gtrid_eq-true x h r)) ∙ p) q

-- ** what is left

pub none_listed : (g : Gtrid) (xs : List Row) → lists_row (without g xs) g ≡ false
none_listed g [] = refl
none_listed g (x ∷ xs) = by (gtrid_eq x.gtrid g) refl (none_listed g xs)
  where
    by : (t : Bool) → gtrid_eq x.gtrid g ≡ t → lists_row (without g xs) g ≡ false → lists_row (if t then without g xs else x ∷ without g xs) g ≡ false
    by true e rest = rest
    by false e rest = (λ i. e i || rest i)

pub others_listed : (g h : Gtrid) (xs : List Row) → gtrid_eq h g ≡ false → lists_row (without g xs) h ≡ lists_row xs h
others_listed g h [] apart = refl
others_listed g h (x ∷ xs) apart = by (gtrid_eq x.gtrid g) refl (gtrid_eq x.gtrid h) refl (others_listed g h xs apart)
  where
    by : (t : Bool) → gtrid_eq x.gtrid g ≡ t → (u : Bool) → gtrid_eq x.gtrid h ≡ u → lists_row (without g xs) h ≡ lists_row xs h
        → lists_row (if t then without g xs else x ∷ without g xs) h ≡ (u || lists_row xs h)
    by true p true q rest = absurd (apart_from x.gtrid g h p apart q)
    by true p false q rest = rest
    by false p u q rest = λ i. q i || rest i

pub others_wait : (g h : Gtrid) (xs : List Row) → gtrid_eq h g ≡ false → participants_in (without g xs) h ≡ participants_in xs h
others_wait g h [] apart = refl
others_wait g h (x ∷ xs) apart = by (gtrid_eq x.gtrid g) refl (gtrid_eq x.gtrid h) refl (others_wait g h xs apart)
  where
    by : (t : Bool) → gtrid_eq x.gtrid g ≡ t → (u : Bool) → gtrid_eq x.gtrid h ≡ u → participants_in (without g xs) h ≡ participants_in xs h
        → participants_in (if t then without g xs else x ∷ without g xs) h ≡ (if u then x.participants else participants_in xs h)
    by true p true q rest = absurd (apart_from x.gtrid g h p apart q)
    by true p false q rest = rest
    by false p u q rest = λ i. if q i then x.participants else rest i

pub without_none : (g : Gtrid) (x : Row) (xs : List Row) → gtrid_eq x.gtrid g ≡ true → without g (x ∷ xs) ≡ without g xs
without_none g x xs e = ap (λ t. if t then without g xs else x ∷ without g xs) e

pub without_first : (g : Gtrid) (x : Row) (xs : List Row) → gtrid_eq x.gtrid g ≡ false → without g (x ∷ xs) ≡ x ∷ without g xs
without_first g x xs e = ap (λ t. if t then without g xs else x ∷ without g xs) e

-- ** changes

pub in_any_order : (g h : Gtrid) (xs : List Row) → without h (without g xs) ≡ without g (without h xs)
in_any_order g h [] = refl
in_any_order g h (x ∷ xs) = by (gtrid_eq x.gtrid g) refl (gtrid_eq x.gtrid h) refl (in_any_order g h xs)
  where
    by : (t : Bool) → gtrid_eq x.gtrid g ≡ t → (u : Bool) → gtrid_eq x.gtrid h ≡ u → without h (without g xs) ≡ without g (without h xs)
        → without h (if t then without g xs else x ∷ without g xs) ≡ without g (if u then without h xs else x ∷ without h xs)
    by true p true q rest = rest
    by true p false q rest = rest ∙ sym (without_none g x (without h xs) p)
    by false p true q rest = without_none h x (without g xs) q ∙ rest
    by false p false q rest =
        without_first h x (without g xs) q ∙ (ap (λ ys. x ∷ ys) rest ∙ sym (without_first g x (without h xs) p))

-- the one transaction again
without_twice : (g : Gtrid) (xs : List Row) → without g (without g xs) ≡ without g xs
without_twice g [] = refl
without_twice g (x ∷ xs) = by (gtrid_eq x.gtrid g) refl (without_twice g xs)
  where
    by : (t : Bool) → gtrid_eq x.gtrid g ≡ t → without g (without g xs) ≡ without g xs
        → without g (if t then without g xs else x ∷ without g xs) ≡ (if t then without g xs else x ∷ without g xs)
    by true p rest = rest
    by false p rest = without_first g x (without g xs) p ∙ ap (λ ys. x ∷ ys) rest

pub without_same : (g h : Gtrid) (xs : List Row) → gtrid_eq h g ≡ true → without g (without h xs) ≡ without g xs
without_same g h xs e = ap (λ k. without g (without k xs)) (gtrid_eq-true h g e) ∙ without_twice g xs

-- some transactions, as there are rows of the one or not
each_without : (g : Gtrid) (gs : List Gtrid) (xs : List Row) → without_each (others g gs) (without g xs) ≡ without g (without_each gs xs)
each_without g [] xs = refl
each_without g (h ∷ gs) xs = by (gtrid_eq h g) refl (each_without g gs (without h xs))
  where
    by : (t : Bool) → gtrid_eq h g ≡ t → without_each (others g gs) (without g (without h xs)) ≡ without g (without_each gs (without h xs))
        → without_each (if t then others g gs else h ∷ others g gs) (without g xs) ≡ without g (without_each gs (without h xs))
    by true e rest = ap (without_each (others g gs)) (sym (without_same g h xs e)) ∙ rest
    by false e rest = ap (without_each (others g gs)) (in_any_order g h xs) ∙ rest

joined_without : (g : Gtrid) (xs ys : List Row) → without g xs ++ without g ys ≡ without g (xs ++ ys)
joined_without g [] ys = refl
joined_without g (x ∷ xs) ys = by (gtrid_eq x.gtrid g) (joined_without g xs ys)
  where
    by : (t : Bool) → without g xs ++ without g ys ≡ without g (xs ++ ys)
        → (if t then without g xs else x ∷ without g xs) ++ without g ys ≡ (if t then without g (xs ++ ys) else x ∷ without g (xs ++ ys))
    by true rest = rest
    by false rest = ap (λ zs. x ∷ zs) rest

-- a change, without the rows of the transaction that it adds or takes away
abbrev pub change_without : Gtrid → Change → Change
change_without g (AddRows xs) = AddRows (without g xs)
change_without g (DropRows gs) = DropRows (others g gs)
change_without g c = c

pub rows_without_after : (g : Gtrid) (c : Change) (xs : List Row) → rows_changed (change_without g c) (without g xs) ≡ without g (rows_changed c xs)
rows_without_after g (AddRows ys) xs = joined_without g ys xs
rows_without_after g (DropRows gs) xs = each_without g gs xs
rows_without_after g (AddRecord x) xs = refl
rows_without_after g NoChange xs = refl

pub records_after : (g : Gtrid) (c : Change) (xs : List Recorded) → heuristics_changed (change_without g c) xs ≡ heuristics_changed c xs
records_after g (AddRows ys) xs = refl
records_after g (DropRows gs) xs = refl
records_after g (AddRecord x) xs = refl
records_after g NoChange xs = refl

-- ** a change after which there are as many rows has changed none

fewer : (g : Gtrid) (xs : List Row) → length (without g xs) ≤ length xs
fewer g [] = omega arith
fewer g (x ∷ xs) = by (gtrid_eq x.gtrid g) (fewer g xs)
  where
    by : (t : Bool) → length (without g xs) ≤ length xs → length (if t then without g xs else x ∷ without g xs) ≤ length (x ∷ xs)
    by true rest = omega (arith, rest)
    by false rest = omega (arith, rest)

none_less : (g : Gtrid) (xs : List Row) → length xs ≤ length (without g xs) → without g xs ≡ xs
none_less g [] n = refl
none_less g (x ∷ xs) n = by (gtrid_eq x.gtrid g) (fewer g xs) (none_less g xs) n
  where
    by : (t : Bool) → length (without g xs) ≤ length xs → (length xs ≤ length (without g xs) → without g xs ≡ xs)
        → length (x ∷ xs) ≤ length (if t then without g xs else x ∷ without g xs) → (if t then without g xs else x ∷ without g xs) ≡ x ∷ xs
    by true less rest n = absurd (omega (arith, less, n))
    by false less rest n = ap (λ ys. x ∷ ys) (rest (omega (arith, n)))

each_fewer : (gs : List Gtrid) (xs : List Row) → length (without_each gs xs) ≤ length xs
each_fewer [] xs = omega arith
each_fewer (g ∷ gs) xs = let a = each_fewer gs (without g xs) in let b = fewer g xs in omega (arith, a, b)

none_less_each : (gs : List Gtrid) (xs : List Row) → length xs ≤ length (without_each gs xs) → without_each gs xs ≡ xs
none_less_each [] xs n = refl
none_less_each (g ∷ gs) xs n =
    let same : without g xs ≡ xs = none_less g xs (let a = each_fewer gs (without g xs) in omega (arith, a, n)) in
    ap (without_each gs) same ∙ none_less_each gs xs (subst (λ ys. length xs ≤ length (without_each gs ys)) same n)

none_more : (xs ys : List Row) → length (xs ++ ys) ≤ length ys → xs ++ ys ≡ ys
none_more [] ys n = refl
none_more (x ∷ xs) ys n = absurd (longer xs (λ m. omega (arith, m, n)))
  where
    longer : (zs : List Row) → (length ys ≤ length (zs ++ ys) → ⊥) → ⊥
    longer zs k = k (at_least zs)
      where
        at_least : (zs : List Row) → length ys ≤ length (zs ++ ys)
        at_least [] = omega arith
        at_least (z ∷ zs) = let m = at_least zs in omega (arith, m)

pub unchanged : (c : Change) (xs : List Row) → length (rows_changed c xs) ≡ length xs → rows_changed c xs ≡ xs
unchanged (AddRows ys) xs e = none_more ys xs (omega (arith, e))
unchanged (DropRows gs) xs e = none_less_each gs xs (omega (arith, e))
unchanged (AddRecord x) xs e = refl
unchanged NoChange xs e = refl

-- ** some transactions except one

pub others_apart : (g h : Gtrid) (gs : List Gtrid) → has_gtrid gs h ≡ false → has_gtrid (others g gs) h ≡ false
others_apart g h [] e = refl
others_apart g h (x ∷ gs) e = by (gtrid_eq x g) (gtrid_eq x h) refl e (others_apart g h gs)
  where
    by : (t u : Bool) → gtrid_eq x h ≡ u → (u || has_gtrid gs h) ≡ false → (has_gtrid gs h ≡ false → has_gtrid (others g gs) h ≡ false)
        → has_gtrid (if t then others g gs else x ∷ others g gs) h ≡ false
    by t true q e rest = cc
    by true false q e rest = rest e
    by false false q e rest = λ i. q i || rest e i

pub rows_of_others : (g : Gtrid) (tr ur : Trace) → ((h : Gtrid) → row_for ur h ≡ row_for tr h) → (gs : List Gtrid)
    → map (row_for ur) (others g gs) ≡ without g (map (row_for tr) gs)
rows_of_others g tr ur same [] = refl
rows_of_others g tr ur same (h ∷ gs) = by (gtrid_eq h g) (rows_of_others g tr ur same gs)
  where
    by : (t : Bool) → map (row_for ur) (others g gs) ≡ without g (map (row_for tr) gs)
        → map (row_for ur) (if t then others g gs else h ∷ others g gs)
        ≡ (if t then without g (map (row_for tr) gs) else row_for tr h ∷ without g (map (row_for tr) gs))
    by true rest = rest
    by false rest = λ i. same h i ∷ rest i
