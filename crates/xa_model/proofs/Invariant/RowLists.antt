-- Lists of rows, with some rows more or fewer.
use Rattle.std.proofs.Common.{◌≡◌, List, [], ◌∷◌, ◌++◌, Bool, true, false, ◌||◌, refl, sym, ap, ◌∙◌, subst, ◌⊎◌}
use Rattle.std.specs.Prelude.{map, if◌then◌else◌}
use Rattle.std.proofs.lemmas.Bool.{or_cases, or_left, or_right}
use mathlib.Core.Logic.{◌⊎◌.inl, ◌⊎◌.inr}
use Rattle.xa_model.specs.Trace.{Gtrid, Row, Trace}
use Rattle.xa_model.specs.Facts.Distinct.{EachOnce}
use Rattle.xa_base.specs.Branch.{gtrid_eq}
use Rattle.xa_model.specs.Facts.{lists_row, has_gtrid, participants_in, row_for, without, without_each}
use Rattle.xa_base.proofs.BranchKeys.{gtrid_eq-true, gtrid_eq-refl}

-- ** lists of rows

pub or_map : (s a b : Bool) → (a ≡ true → b ≡ true) → (s || a) ≡ true → (s || b) ≡ true
or_map true a b f e = refl
or_map false a b f e = f e

keep_step : (t : Bool) (x : Row) (g : Gtrid) (less rows : List Row) → (lists_row less g ≡ true → lists_row rows g ≡ true)
    → lists_row (if t then less else x ∷ less) g ≡ true → lists_row (x ∷ rows) g ≡ true
keep_step true x g less rows f e = or_right _ _ (f e)
keep_step false x g less rows f e = or_map (gtrid_eq x.gtrid g) _ _ f e

pub without_keeps : (h g : Gtrid) (rows : List Row) → lists_row (without h rows) g ≡ true → lists_row rows g ≡ true
without_keeps h g [] e = e
without_keeps h g (x ∷ rows) e = keep_step (gtrid_eq x.gtrid h) x g (without h rows) rows (without_keeps h g rows) e

or_drop : (s a b : Bool) (h g : Gtrid) → (a ≡ true → b ≡ false → h ≡ g) → (s || a) ≡ true → (s || b) ≡ false → h ≡ g
or_drop true a b h g f e k = cc
or_drop false a b h g f e k = f e k

drop_step : (t : Bool) (h : Gtrid) (x : Row) (g : Gtrid) (less rows : List Row) → gtrid_eq x.gtrid h ≡ t
    → (lists_row rows g ≡ true → lists_row less g ≡ false → h ≡ g) → lists_row (x ∷ rows) g ≡ true → lists_row (if t then less else x ∷ less) g ≡ false → h ≡ g
drop_step true h x g less rows k f e n = by_place (or_cases (gtrid_eq x.gtrid g) _ e)
  where
    by_place : (gtrid_eq x.gtrid g ≡ true) ⊎ (lists_row rows g ≡ true) → h ≡ g
    by_place (inl s) = sym (gtrid_eq-true x.gtrid h k) ∙ gtrid_eq-true x.gtrid g s
    by_place (inr s) = f s n
drop_step false h x g less rows k f e n = or_drop (gtrid_eq x.gtrid g) _ _ h g f e n

pub without_drops : (h g : Gtrid) (rows : List Row) → lists_row rows g ≡ true → lists_row (without h rows) g ≡ false → h ≡ g
without_drops h g [] e f = cc
without_drops h g (x ∷ rows) e f = drop_step (gtrid_eq x.gtrid h) h x g (without h rows) rows refl (without_drops h g rows) e f

-- ** several rows

or_joined : (a b c : Bool) → (a || (b || c)) ≡ ((a || b) || c)
or_joined true b c = refl
or_joined false b c = refl

pub listed_joined : (xs rows : List Row) (g : Gtrid) → lists_row (xs ++ rows) g ≡ (lists_row xs g || lists_row rows g)
listed_joined [] rows g = refl
listed_joined (x ∷ xs) rows g = ap (λ t. gtrid_eq x.gtrid g || t) (listed_joined xs rows g) ∙ or_joined (gtrid_eq x.gtrid g) _ _

pub without_each_keeps : (gs : List Gtrid) (g : Gtrid) (rows : List Row) → lists_row (without_each gs rows) g ≡ true → lists_row rows g ≡ true
without_each_keeps [] g rows e = e
without_each_keeps (h ∷ gs) g rows e = without_keeps h g rows (without_each_keeps gs g (without h rows) e)

pub without_each_drops : (gs : List Gtrid) (g : Gtrid) (rows : List Row) → lists_row rows g ≡ true → lists_row (without_each gs rows) g ≡ false
    → has_gtrid gs g ≡ true
without_each_drops [] g rows e f = absurd (cc)
without_each_drops (h ∷ gs) g rows e f = by_test (lists_row (without h rows) g) refl (λ q. without_each_drops gs g (without h rows) q f)
  where
    by_test : (t : Bool) → lists_row (without h rows) g ≡ t → (lists_row (without h rows) g ≡ true → has_gtrid gs g ≡ true)
        → (gtrid_eq h g || has_gtrid gs g) ≡ true
    by_test true q k = or_right _ _ (k q)
    by_test false q k = or_left _ _ (ap (λ k. gtrid_eq k g) (without_drops h g rows e q) ∙ gtrid_eq-refl g)

-- ** the rows of several transactions

pub each_is : (IsSo : Gtrid → Type 0) (gs : List Gtrid) → EachOnce IsSo gs → (g : Gtrid) → has_gtrid gs g ≡ true → IsSo g
each_is IsSo [] r g h = absurd (cc)
each_is IsSo (x ∷ gs) r g h = by_place (or_cases _ _ h) (each_is IsSo gs r.2 g)
  where
    by_place : (gtrid_eq x g ≡ true) ⊎ (has_gtrid gs g ≡ true) → (has_gtrid gs g ≡ true → IsSo g) → IsSo g
    by_place (inl s) k = subst IsSo (gtrid_eq-true x g s) r.0
    by_place (inr s) k = k s

pub rows_made : (tr : Trace) (gs : List Gtrid) (g : Gtrid) → lists_row (map (row_for tr) gs) g ≡ has_gtrid gs g
rows_made tr [] g = refl
rows_made tr (x ∷ gs) g = ap (λ t. gtrid_eq x g || t) (rows_made tr gs g)

pub made_for : (tr : Trace) (gs : List Gtrid) (g : Gtrid) → has_gtrid gs g ≡ true
    → participants_in (map (row_for tr) gs) g ≡ (row_for tr g).participants
made_for tr [] g h = absurd (cc)
made_for tr (x ∷ gs) g h = by_test (gtrid_eq x g) refl h (made_for tr gs g)
  where
    by_test : (t : Bool) → gtrid_eq x g ≡ t → (t || has_gtrid gs g) ≡ true
        → (has_gtrid gs g ≡ true → participants_in (map (row_for tr) gs) g ≡ (row_for tr g).participants)
        → (if t then (row_for tr x).participants else participants_in (map (row_for tr) gs) g) ≡ (row_for tr g).participants
    by_test true s h k = ap (λ y. (row_for tr y).participants) (gtrid_eq-true x g s)
    by_test false s h k = k h
