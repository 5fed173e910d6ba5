-- One happening more in the log.
use Rattle.std.proofs.Common.{◌≡◌, ℕ, List, [], ◌∷◌, ◌++◌, length, Bool, true, false, not, ◌&&◌, ◌||◌, ◌==◌, refl, sym, ap, ◌∙◌, subst, ◌⊎◌}
use Rattle.std.specs.Prelude.{if◌then◌else◌}
use mathlib.Core.Logic.{◌⊎◌.inl, ◌⊎◌.inr}
use Rattle.std.proofs.lemmas.Bool.{and_parts, or_cases, or_left, or_right}
use Rattle.xa_model.specs.Trace.{Gtrid, Branch, Call, Answer, Row, Happening, Happening.Heard, Happening.Decided, Happening.Done, Happening.Restarted, Trace, Trace.From, Trace.Then}
use Rattle.xa_base.specs.declared.step.Outcome.TheVariants as Outcome
use Rattle.xa_base.specs.Branch.{gtrid_eq}
use Rattle.xa_model.specs.Facts.{was_told, was_told_lately, row_for, participants_in, participants, is_settled_lately, says_yes_in, says_read_only, acknowledges, has_row, recorded, had_row, doubt, log, is_settled, lists_row, has_gtrid, without, without_each, rows_changed, adds_row, Change, Change.AddRows, Change.DropRows, Change.AddRecord, Change.NoChange}
use Rattle.xa_base.proofs.BranchKeys.{gtrid_eq-true}
use Rattle.xa_model.proofs.Invariant.Grows.{told_kept}
use Rattle.xa_model.proofs.Invariant.Records.{recorded_kept}
use Rattle.xa_model.proofs.Invariant.RowLists.{or_map, listed_joined, without_keeps, without_drops, without_each_keeps, without_each_drops}

-- ** rows after one happening more

pub rowed_kept : (tr : Trace) (e : Happening) (g : Gtrid) → had_row tr g ≡ true → had_row (Then tr e) g ≡ true
rowed_kept tr (Decided h Outcome.Commit) g r = or_right _ _ r
rowed_kept tr (Restarted i d n) g r = or_right _ _ r
rowed_kept tr _ g r = r

-- why a transaction has a row for the first time
pub data NewRow (tr : Trace) (e : Happening) (g : Gtrid) : Type 0 where
  Had : had_row tr g ≡ true → NewRow tr e g
  By_decision : e ≡ Decided g Outcome.Commit → has_row (Then tr e) g ≡ true → NewRow tr e g
  By_restart : (i d n : ℕ) → e ≡ Restarted i d n → adds_row (doubt tr) g ≡ true → has_row (Then tr e) g ≡ true → NewRow tr e g

-- the rows that a change adds, one of them of the transaction
pub record Adds (c : Change) (g : Gtrid) : Type 0 where
  pub added : List Row
  pub is : c ≡ AddRows added
  pub of : lists_row added g ≡ true

pub adds_row-true : (c : Change) (g : Gtrid) → adds_row c g ≡ true → Adds c g
adds_row-true (AddRows xs) g e = record { added = xs; is = refl; of = e }
adds_row-true (DropRows gs) g e = absurd (cc)
adds_row-true (AddRecord b) g e = absurd (cc)
adds_row-true NoChange g e = absurd (cc)

decided_row : (x : Row) (g : Gtrid) (t : Bool) (rows : List Row) → gtrid_eq x.gtrid g ≡ true → t ≡ true → lists_row (if t then x ∷ rows else rows) g ≡ true
decided_row h g true rows s e = or_left _ _ s
decided_row h g false rows s e = cc

restarted_row : (g : Gtrid) (t : Bool) (c : Change) (rows : List Row) → not t ≡ true → adds_row c g ≡ true
    → lists_row (if t then rows else rows_changed c rows) g ≡ true
restarted_row g true c rows s e = cc
restarted_row g false (AddRows xs) rows s e = listed_joined xs rows g ∙ or_left _ _ e
restarted_row g false (DropRows gs) rows s e = absurd (cc)
restarted_row g false (AddRecord b) rows s e = absurd (cc)
restarted_row g false NoChange rows s e = absurd (cc)

pub rowed_new : (tr : Trace) (e : Happening) (g : Gtrid) → had_row (Then tr e) g ≡ true → NewRow tr e g
rowed_new tr (Decided h Outcome.Commit) g r = by_case (or_cases _ _ r)
  where
    by_case : ((gtrid_eq h g && was_told tr (says_yes_in h)) ≡ true) ⊎ (had_row tr g ≡ true) → NewRow tr (Decided h Outcome.Commit) g
    by_case (inl k) =
        let p = and_parts _ _ k in By_decision (ap (λ x. Decided x Outcome.Commit) (gtrid_eq-true h g p.0)) (decided_row (row_for tr h) g _ (log tr) p.0 p.1)
    by_case (inr k) = Had k
rowed_new tr (Restarted i d n) g r = by_case (or_cases _ _ r)
  where
    by_case : ((not (d == length (log tr)) && adds_row (doubt tr) g) ≡ true) ⊎ (had_row tr g ≡ true) → NewRow tr (Restarted i d n) g
    by_case (inl k) = let p = and_parts _ _ k in By_restart i d n refl p.1 (restarted_row g _ (doubt tr) (log tr) p.0 p.1)
    by_case (inr k) = Had k
rowed_new tr _ g r = Had r

-- a row that is there has been made, before this or by it
row_rowed_decided : (x : Row) (g : Gtrid) (t : Bool) (rows : List Row) (r : Bool) → (lists_row rows g ≡ true → r ≡ true)
    → lists_row (if t then x ∷ rows else rows) g ≡ true → ((gtrid_eq x.gtrid g && t) || r) ≡ true
row_rowed_decided x g true rows r f e = by_place (or_cases _ _ e)
  where
    by_place : (gtrid_eq x.gtrid g ≡ true) ⊎ (lists_row rows g ≡ true) → ((gtrid_eq x.gtrid g && true) || r) ≡ true
    by_place (inl s) = or_left _ _ (ap (λ y. y && true) s)
    by_place (inr s) = or_right _ _ (f s)
row_rowed_decided x g false rows r f e = or_right _ _ (f e)

row_rowed_changed : (g : Gtrid) (c : Change) (rows : List Row) (r : Bool) → (lists_row rows g ≡ true → r ≡ true)
    → lists_row (rows_changed c rows) g ≡ true → (adds_row c g || r) ≡ true
row_rowed_changed g (AddRows xs) rows r f e = or_map (lists_row xs g) _ _ f (sym (listed_joined xs rows g) ∙ e)
row_rowed_changed g (DropRows gs) rows r f e = f (without_each_keeps gs g rows e)
row_rowed_changed g (AddRecord b) rows r f e = f e
row_rowed_changed g NoChange rows r f e = f e

row_rowed_restarted : (g : Gtrid) (t : Bool) (c : Change) (rows : List Row) (r : Bool) → (lists_row rows g ≡ true → r ≡ true)
    → lists_row (if t then rows else rows_changed c rows) g ≡ true → ((not t && adds_row c g) || r) ≡ true
row_rowed_restarted g true c rows r f e = f e
row_rowed_restarted g false c rows r f e = row_rowed_changed g c rows r f e

pub row_rowed_after : (tr : Trace) (e : Happening) (g : Gtrid) → (has_row tr g ≡ true → had_row tr g ≡ true)
    → has_row (Then tr e) g ≡ true → had_row (Then tr e) g ≡ true
row_rowed_after tr (Decided h Outcome.Commit) g f r = row_rowed_decided (row_for tr h) g _ (log tr) _ f r
row_rowed_after tr (Done h) g f r = f (without_keeps h g (log tr) r)
row_rowed_after tr (Restarted i d n) g f r = row_rowed_restarted g _ (doubt tr) (log tr) _ f r
row_rowed_after tr _ g f r = f r

-- the rows that a change drops, one of them of the transaction
pub record Drops (c : Change) (g : Gtrid) : Type 0 where
  pub dropped : List Gtrid
  pub is : c ≡ DropRows dropped
  pub of : has_gtrid dropped g ≡ true

-- why a row is gone
pub data LeftRow (tr : Trace) (e : Happening) (g : Gtrid) : Type 0 where
  By_done : e ≡ Done g → LeftRow tr e g
  By_doubt : Drops (doubt tr) g → LeftRow tr e g

row_lost_decided : (x : Row) (g : Gtrid) (t : Bool) (rows : List Row) → lists_row rows g ≡ true → lists_row (if t then x ∷ rows else rows) g ≡ false → ⊥
row_lost_decided x g true rows e f = let k = or_right (gtrid_eq x.gtrid g) _ e in cc
row_lost_decided x g false rows e f = cc

row_lost_changed : (g : Gtrid) (c : Change) (rows : List Row) → lists_row rows g ≡ true → lists_row (rows_changed c rows) g ≡ false → Drops c g
row_lost_changed g (AddRows xs) rows e f = let k = listed_joined xs rows g ∙ or_right (lists_row xs g) _ e in absurd (cc)
row_lost_changed g (DropRows gs) rows e f = record { dropped = gs; is = refl; of = without_each_drops gs g rows e f }
row_lost_changed g (AddRecord b) rows e f = absurd (cc)
row_lost_changed g NoChange rows e f = absurd (cc)

row_lost_restarted : (g : Gtrid) (t : Bool) (c : Change) (rows : List Row) → lists_row rows g ≡ true
    → lists_row (if t then rows else rows_changed c rows) g ≡ false → Drops c g
row_lost_restarted g true c rows e f = absurd (cc)
row_lost_restarted g false c rows e f = row_lost_changed g c rows e f

pub row_lost : (tr : Trace) (e : Happening) (g : Gtrid) → has_row tr g ≡ true → has_row (Then tr e) g ≡ false → LeftRow tr e g
row_lost tr (Decided h Outcome.Commit) g r n = absurd (row_lost_decided (row_for tr h) g _ (log tr) r n)
row_lost tr (Done h) g r n = By_done (ap (λ x. Done x) (without_drops h g (log tr) r n))
row_lost tr (Restarted i d k) g r n = By_doubt (row_lost_restarted g _ (doubt tr) (log tr) r n)
row_lost tr _ g r n = cc

-- ** the participants of a row

-- a row is one of those in front, or one behind them
data Front (xs rows : List Row) (g : Gtrid) : Type 0 where
  In_front : lists_row xs g ≡ true → participants_in (xs ++ rows) g ≡ participants_in xs g → Front xs rows g
  Behind : lists_row rows g ≡ true → participants_in (xs ++ rows) g ≡ participants_in rows g → Front xs rows g

front : (xs rows : List Row) (g : Gtrid) → lists_row (xs ++ rows) g ≡ true → Front xs rows g
front [] rows g e = Behind e refl
front (x ∷ xs) rows g e = by_test (gtrid_eq x.gtrid g) refl e (front xs rows g)
  where
    choice : (t : Bool) (bs : List Branch) → gtrid_eq x.gtrid g ≡ t
        → (if gtrid_eq x.gtrid g then x.participants else bs) ≡ (if t then x.participants else bs)
    choice t bs s = ap (λ u. if u then x.participants else bs) s

    by_rest : gtrid_eq x.gtrid g ≡ false → Front xs rows g → Front (x ∷ xs) rows g
    by_rest s (In_front l p) = In_front (or_right _ _ l) (choice false _ s ∙ (p ∙ sym (choice false _ s)))
    by_rest s (Behind l p) = Behind l (choice false _ s ∙ p)

    by_test : (t : Bool) → gtrid_eq x.gtrid g ≡ t → (t || lists_row (xs ++ rows) g) ≡ true → (lists_row (xs ++ rows) g ≡ true → Front xs rows g)
        → Front (x ∷ xs) rows g
    by_test true s e k = In_front (or_left _ _ s) (choice true _ s ∙ sym (choice true _ s))
    by_test false s e k = by_rest s (k e)

without_none : (g : Gtrid) (rows : List Row) → lists_row (without g rows) g ≡ true → ⊥
without_none g [] e = cc
without_none g (x ∷ rows) e = by_test (gtrid_eq x.gtrid g) refl (without_none g rows) e
  where
    by_test : (t : Bool) → gtrid_eq x.gtrid g ≡ t → (lists_row (without g rows) g ≡ true → ⊥)
        → lists_row (if t then without g rows else x ∷ without g rows) g ≡ true → ⊥
    by_test true s f e = f e
    by_test false s f e = by_place (or_cases _ _ e)
      where
        by_place : (gtrid_eq x.gtrid g ≡ true) ⊎ (lists_row (without g rows) g ≡ true) → ⊥
        by_place (inl k) = cc
        by_place (inr k) = f k

-- a row that is left keeps its participants
without_same : (h g : Gtrid) (rows : List Row) → lists_row (without h rows) g ≡ true → participants_in (without h rows) g ≡ participants_in rows g
without_same h g [] e = refl
without_same h g (x ∷ rows) e = by_tests (gtrid_eq x.gtrid h) (gtrid_eq x.gtrid g) refl refl (without_same h g rows) e
  where
    both : gtrid_eq x.gtrid h ≡ true → gtrid_eq x.gtrid g ≡ true → lists_row (without h rows) g ≡ true → ⊥
    both p q e = without_none g rows (subst (λ y. lists_row (without y rows) g ≡ true) (sym (gtrid_eq-true x.gtrid h p) ∙ gtrid_eq-true x.gtrid g q) e)

    by_tests : (t s : Bool) → gtrid_eq x.gtrid h ≡ t → gtrid_eq x.gtrid g ≡ s
        → (lists_row (without h rows) g ≡ true → participants_in (without h rows) g ≡ participants_in rows g)
        → lists_row (if t then without h rows else x ∷ without h rows) g ≡ true
        → participants_in (if t then without h rows else x ∷ without h rows) g ≡ (if s then x.participants else participants_in rows g)
    by_tests true true p q f e = absurd (both p q e)
    by_tests true false p q f e = f e
    by_tests false true p q f e = ap (λ s. if s then x.participants else participants_in (without h rows) g) q
    by_tests false false p q f e =
        ap (λ s. if s then x.participants else participants_in (without h rows) g) q ∙ f (subst (λ s. (s || lists_row (without h rows) g) ≡ true) q e)

without_each_same : (gs : List Gtrid) (g : Gtrid) (rows : List Row) → lists_row (without_each gs rows) g ≡ true
    → participants_in (without_each gs rows) g ≡ participants_in rows g
without_each_same [] g rows e = refl
without_each_same (h ∷ gs) g rows e = without_each_same gs g (without h rows) e ∙ without_same h g rows (without_each_keeps gs g (without h rows) e)

-- why a row is there: it was, with the same participants, or it is made now
pub data RowNow (tr : Trace) (e : Happening) (g : Gtrid) : Type 0 where
  Before : has_row tr g ≡ true → participants (Then tr e) g ≡ participants tr g → RowNow tr e g
  Decided_now : e ≡ Decided g Outcome.Commit → participants (Then tr e) g ≡ (row_for tr g).participants → RowNow tr e g
  Restarted_now : (i d n : ℕ) → e ≡ Restarted i d n → (a : Adds (doubt tr) g) → participants (Then tr e) g ≡ participants_in a.added g → RowNow tr e g

row_decided_back : (tr : Trace) (h g : Gtrid) → (t : Bool) → was_told tr (says_yes_in h) ≡ t
    → lists_row (if t then row_for tr h ∷ log tr else log tr) g ≡ true → RowNow tr (Decided h Outcome.Commit) g
row_decided_back tr h g false k r = Before r (ap (λ t. participants_in (if t then row_for tr h ∷ log tr else log tr) g) k)
row_decided_back tr h g true k r = by_place (front (row_for tr h ∷ []) (log tr) g r)
  where
    now : participants (Then tr (Decided h Outcome.Commit)) g ≡ participants_in (row_for tr h ∷ log tr) g
    now = ap (λ t. participants_in (if t then row_for tr h ∷ log tr else log tr) g) k

    first : (gtrid_eq h g || false) ≡ true → gtrid_eq h g ≡ true
    first s = by_test (gtrid_eq h g) s
      where
        by_test : (t : Bool) → (t || false) ≡ true → t ≡ true
        by_test true s = refl
        by_test false s = s

    by_row : gtrid_eq h g ≡ true → participants (Then tr (Decided h Outcome.Commit)) g ≡ participants_in (row_for tr h ∷ []) g
        → RowNow tr (Decided h Outcome.Commit) g
    by_row s p =
        let q = gtrid_eq-true h g s in
        Decided_now (ap (λ x. Decided x Outcome.Commit) q)
        (p ∙ (ap (λ t. if t then (row_for tr h).participants else []) s ∙ ap (λ x. (row_for tr x).participants) q))

    by_place : Front (row_for tr h ∷ []) (log tr) g → RowNow tr (Decided h Outcome.Commit) g
    by_place (In_front s p) = by_row (first s) (now ∙ p)
    by_place (Behind s p) = Before s (now ∙ p)

row_changed_back : (tr : Trace) (i d n : ℕ) (g : Gtrid) (c : Change) → doubt tr ≡ c
    → participants (Then tr (Restarted i d n)) g ≡ participants_in (rows_changed c (log tr)) g
    → lists_row (rows_changed c (log tr)) g ≡ true → RowNow tr (Restarted i d n) g
row_changed_back tr i d n g (AddRows xs) k q r = by_place (front xs (log tr) g r)
  where
    by_place : Front xs (log tr) g → RowNow tr (Restarted i d n) g
    by_place (In_front s p) = Restarted_now i d n refl (record { added = xs; is = k; of = s }) (q ∙ p)
    by_place (Behind s p) = Before s (q ∙ p)
row_changed_back tr i d n g (DropRows gs) k q r = Before (without_each_keeps gs g (log tr) r) (q ∙ without_each_same gs g (log tr) r)
row_changed_back tr i d n g (AddRecord b) k q r = Before r q
row_changed_back tr i d n g NoChange k q r = Before r q

row_restarted_back : (tr : Trace) (i d n : ℕ) (g : Gtrid) (t : Bool) → (d == length (log tr)) ≡ t
    → lists_row (if t then log tr else rows_changed (doubt tr) (log tr)) g ≡ true → RowNow tr (Restarted i d n) g
row_restarted_back tr i d n g true k r = Before r (ap (λ t. participants_in (if t then log tr else rows_changed (doubt tr) (log tr)) g) k)
row_restarted_back tr i d n g false k r =
    row_changed_back tr i d n g (doubt tr) refl (ap (λ t. participants_in (if t then log tr else rows_changed (doubt tr) (log tr)) g) k) r

pub row_back : (tr : Trace) (e : Happening) (g : Gtrid) → has_row (Then tr e) g ≡ true → RowNow tr e g
row_back tr (Decided h Outcome.Commit) g r = row_decided_back tr h g _ refl r
row_back tr (Done h) g r = Before (without_keeps h g (log tr) r) (without_same h g (log tr) r)
row_back tr (Restarted i d n) g r = row_restarted_back tr i d n g _ refl r
row_back tr _ g r = Before r refl

-- ** settled

told_lately_told : (tr : Trace) (test : Call → Answer → Bool) → was_told_lately tr test ≡ true → was_told tr test ≡ true
told_lately_told (From o) test h = absurd (cc)
told_lately_told (Then tr (Restarted i d n)) test h = absurd (cc)
told_lately_told (Then tr (Heard l c a)) test h = or_map (test c a) _ _ (told_lately_told tr test) h
told_lately_told (Then tr _) test h = told_lately_told tr test h

pub settled_lately_settled : (tr : Trace) (b : Branch) → is_settled_lately tr b ≡ true → is_settled tr b ≡ true
settled_lately_settled tr b h = or_map (recorded tr b) _ _ (λ k. or_right _ _ (told_lately_told tr (acknowledges b) k)) h

or_three : (a b c x y z : Bool) → (a ≡ true → x ≡ true) → (b ≡ true → y ≡ true) → (c ≡ true → z ≡ true) → (a || (b || c)) ≡ true → (x || (y || z)) ≡ true
or_three true b c x y z f g h e = or_left _ _ (f refl)
or_three false true c x y z f g h e = or_right _ _ (or_left _ _ (g refl))
or_three false false c x y z f g h e = or_right _ _ (or_right _ _ (h e))

pub settled_kept : (tr : Trace) (e : Happening) (b : Branch) → is_settled tr b ≡ true → is_settled (Then tr e) b ≡ true
settled_kept tr e b s = or_three _ _ _ _ _ _ (recorded_kept tr e b) (told_kept tr e (says_read_only b)) (told_kept tr e (acknowledges b)) s
