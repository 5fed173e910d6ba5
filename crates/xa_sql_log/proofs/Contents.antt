-- The rows of a transaction, and what is left where rows are taken out.
use Rattle.std.proofs.Common.{◌≡◌, inl, inr, ℕ, ℤ, pos, List, [], ◌∷◌, map, filter, Bool, true, false, not, ◌&&◌, ◌||◌, refl, sym, ap, subst, ◌∙◌, is_eq, Ordering, Less, Equal, Greater, nat_cmp, int_cmp, ◌≤◌, arith, w64, to_z, of_z}
use Rattle.std.specs.Ordering.{eq_by_cmp, ordering_then, match_ordering}
use Rattle.std.specs.Cmp.{both_ways, tied_itself, int_cmp_total, nat_cmp_total}
use Rattle.std.specs.List.{AllByRecursion, list_any, list_all}
use Rattle.std.specs.FinMap.{int_cmp-IsAntisymmetric, nat_cmp-IsAntisymmetric}
use Rattle.std.proofs.lemmas.Bool.{cases_Bool, true≢false, and_parts, or_parts}
use Rattle.std.specs.List.Sorted.{IsPermutation}
use Rattle.sqlite.specs.declared.types.Value.TheVariants.{Int}
use Rattle.sqlite.specs.Order.{Row}
use Rattle.sqlite.specs.Tree.{IsTable, put_row, rowid, has_rowid, without_rowid}
use Rattle.sqlite.specs.Edit.{is_taken, without_all, id_in}
use Rattle.sqlite.specs.Term.{Term, holds, col}
use Rattle.sqlite_value.specs.Order.{value_cmp}
use Rattle.sqlite_rules.specs.Lists.{Has}
use Rattle.sqlite_rules.specs.Calls.{ids_of}
use Rattle.std.proofs.lemmas.List.Sorted.{IsPermutation-map, IsPermutation-sym, Contains-permutation}
use Rattle.sqlite_rules.proofs.ListLemmas.{all_has, some_has, some_from, has_filtered, has_kept, has_contained, contains_had}
use Rattle.sqlite_rules.proofs.ProbeLemmas.{has_mapped, mapped_has}
use Rattle.sqlite_rules.proofs.PlaceLemmas.{tied_same}
use Rattle.sqlite_trees.proofs.ListLemmas.{filter_same, all_weaker, all-filter, ascending-filter}
use Rattle.xa_base.specs.declared.branch.Gtrid.{Gtrid}
use Rattle.xa_base.specs.Branch.{gtrid_cmp}
use Rattle.xa_base.proofs.BranchOrder.{gtrids_total, exact_gtrids}
use Rattle.xa_log.specs.Content.{last_number}
use Rattle.std.proofs.lemmas.Int.{to_z_pos}
use Rattle.xa_log.specs.Contract.{FitsRow}
use Rattle.xa_sql_log.specs.Rows.{decision_row, IsDecisionRow, gtrid_of_row}
use Rattle.xa_sql_log.proofs.Texts.{is}
use Rattle.xa_base.proofs.Orders.{equal_is}
use Rattle.xa_sql_log.proofs.Plain.{chosen, shown}
use Rattle.xa_sql_log.proofs.Values.{equal_to, equal_numbers, same_id}

-- ---- a test over the rows, after one row was put where its rowid was free

swap : (a b c : Bool) → (a || (b || c)) ≡ (b || (a || c))
swap true true c = refl
swap true false c = refl
swap false b c = refl

pub any_put : (p : Row → Bool) (new : Row) (rows : List Row) → is_taken rows new ≡ false → list_any p (put_row new rows) ≡ (p new || list_any p rows)
any_put p new [] free = refl
any_put p new (r ∷ rows) free =
    let parts = or_parts _ _ free in
    go (value_cmp (rowid r) (rowid new)) parts.0 (any_put p new rows parts.1)
  where
    go : (o : Ordering) → is_eq o ≡ false → list_any p (put_row new rows) ≡ (p new || list_any p rows)
        → list_any p (match_ordering o (r ∷ put_row new rows) (new ∷ rows) (new ∷ r ∷ rows)) ≡ (p new || (p r || list_any p rows))
    go Less apart later = ap (λ b. p r || b) later ∙ swap (p r) (p new) (list_any p rows)
    go Equal apart later = absurd (cc)
    go Greater apart later = refl

-- where its rowid is free, each row stays
pub put_keeps : (new : Row) (rows : List Row) (x : Row) → is_taken rows new ≡ false → Has rows x → Has (put_row new rows) x
put_keeps new [] x free h = absurd h
put_keeps new (r ∷ rows) x free h =
    let parts = or_parts _ _ free in
    go (value_cmp (rowid r) (rowid new)) parts.0 h (put_keeps new rows x parts.1)
  where
    go : (o : Ordering) → is_eq o ≡ false → Has (r ∷ rows) x → (Has rows x → Has (put_row new rows) x)
        → Has (match_ordering o (r ∷ put_row new rows) (new ∷ rows) (new ∷ r ∷ rows)) x
    go Less apart (inl same) later = inl same
    go Less apart (inr there) later = inr (later there)
    go Equal apart here later = absurd (true≢false apart)
    go Greater apart here later = inr here

-- ---- the rows of a gtrid

abbrev pub gtrid_params : Gtrid → Row
gtrid_params g = Int (pos g.incarnation) ∷ Int (pos g.sequence) ∷ []

-- a number that fits a row is bound as it is
pub bound_number : (n : ℕ) → n ≤ last_number → to_z w64 (of_z w64 (pos n)) ≡ pos n
bound_number n low = to_z_pos w64 n (omega (arith, low))

pub one_param : (n : ℕ) → n ≤ last_number → Int (to_z w64 (of_z w64 (pos n))) ∷ [] ≡ Int (pos n) ∷ []
one_param n low = rw (bound_number n low) refl

pub two_params : (g : Gtrid) → FitsRow g → Int (to_z w64 (of_z w64 (pos g.incarnation))) ∷ Int (to_z w64 (of_z w64 (pos g.sequence))) ∷ [] ≡ gtrid_params g
two_params g fits = rw (bound_number g.incarnation fits.0, bound_number g.sequence fits.1) refl

abbrev pub gtrid_tests : List Term
gtrid_tests = is 1 0 ∷ is 2 1 ∷ []

pub both_parts : (o p : Ordering) → (is_eq o && (is_eq p && true)) ≡ is_eq (ordering_then o p)
both_parts Less p = refl
both_parts Equal Less = refl
both_parts Equal Equal = refl
both_parts Equal Greater = refl
both_parts Greater p = refl

pub same_number : (a b : ℕ) → equal_to (Int (pos a)) (Int (pos b)) ≡ is_eq (nat_cmp b a)
same_number a b = equal_numbers (pos a) (pos b) ∙ both_ways _ _
    (λ h. let same : pos a ≡ pos b = int_cmp-IsAntisymmetric (pos a) (pos b) (equal_is _ h) in let n : a ≡ b = cc in subst
    (λ x. is_eq (nat_cmp x a) ≡ true) n (ap is_eq (tied_itself nat_cmp_total a)))
    (λ h. let n : b ≡ a = nat_cmp-IsAntisymmetric b a (equal_is _ h) in subst (λ x. is_eq (int_cmp (pos x) (pos b)) ≡ true) n
    (ap is_eq (tied_itself int_cmp_total (pos b))))

pub names_gtrid : (id : ℤ) (x g : Gtrid) → list_all (holds (gtrid_params g ∷ decision_row id x ∷ [])) gtrid_tests ≡ eq_by_cmp gtrid_cmp g x
names_gtrid id x g = ap (λ b. b && (equal_to (Int (pos x.sequence)) (Int (pos g.sequence)) && true)) (same_number x.incarnation g.incarnation)
    ∙ ap (λ b. is_eq (nat_cmp g.incarnation x.incarnation) && (b && true)) (same_number x.sequence g.sequence) ∙ both_parts _ _

pub names_gtrid_in : (g : Gtrid) (r : Row) → IsDecisionRow r → list_all (holds (gtrid_params g ∷ r ∷ [])) gtrid_tests ≡ eq_by_cmp gtrid_cmp g (gtrid_of_row r)
names_gtrid_in g r is = rw is.2 (names_gtrid is.0 is.1 g)

-- the rows that pass WHERE are those of the gtrid
pub chosen_gtrid : (g : Gtrid) (rows : List Row) → AllByRecursion IsDecisionRow rows
    → chosen gtrid_tests (gtrid_params g) rows ≡ filter (λ r. eq_by_cmp gtrid_cmp g (gtrid_of_row r)) rows
chosen_gtrid g rows all = filter_same _ _ rows (all_weaker _ _ (names_gtrid_in g) rows all)

-- ---- the rows that are left where some rowids are taken out

pub all_left : (P : Row → Type 0) (ids : List ℤ) (rows : List Row) → AllByRecursion P rows → AllByRecursion P (without_all rows ids)
all_left P [] rows all = all
all_left P (id ∷ ids) rows all = all_left P ids (without_rowid id rows) (all-filter P (λ r. not (has_rowid id r)) rows all)

pub table_left : (ids : List ℤ) (rows : List Row) → IsTable rows → IsTable (without_all rows ids)
table_left [] rows up = up
table_left (id ∷ ids) rows up = table_left ids (without_rowid id rows) (ascending-filter _ (λ r. not (has_rowid id r)) rows up)

pub left_has : (ids : List ℤ) (rows : List Row) (r : Row) → Has rows r → ((id : ℤ) → Has ids id → has_rowid id r ≡ false) → Has (without_all rows ids) r
left_has [] rows r h lacks = h
left_has (id ∷ ids) rows r h lacks =
    left_has ids (without_rowid id rows) r (has_kept (λ y. not (has_rowid id y)) rows r h (ap not (lacks id (inl refl)))) (λ other k. lacks other (inr k))

pub not_true : (b : Bool) → not b ≡ true → b ≡ false
not_true true h = absurd (cc)
not_true false h = refl

pub has_left : (ids : List ℤ) (rows : List Row) (r : Row) → Has (without_all rows ids) r → Has rows r × ((id : ℤ) → Has ids id → has_rowid id r ≡ false)
has_left [] rows r h = (h, λ id none. absurd none)
has_left (id ∷ ids) rows r h =
    let later = has_left ids (without_rowid id rows) r h in
    let kept = has_filtered (λ y. not (has_rowid id y)) rows r later.0 in
    (kept.0, λ other k. elim k [ inl same ↦ subst (λ x. has_rowid x r ≡ false) (sym same) (not_true _ kept.1) | inr more ↦ later.1 other more ])

-- ---- the rows of a gtrid are taken out

shown_ids : (rows : List Row) (params : Row) → ids_of (map (shown (col 1 0 ∷ []) params) rows) ≡ map (λ r. id_in (rowid r)) rows
shown_ids [] params = refl
shown_ids (r ∷ rows) params = ap (λ xs. id_in (rowid r) ∷ xs) (shown_ids rows params)

pub permuted_has : {X : Type 0} (xs ys : List X) (x : X) → IsPermutation xs ys → Has xs x → Has ys x
permuted_has xs ys x same h = has_contained ys x (Contains-permutation xs ys x same (contains_had xs x h))

module _ (g : Gtrid) (rows found : List Row) (up : IsTable rows) (all : AllByRecursion IsDecisionRow rows)
    (answer : IsPermutation (map (shown (col 1 0 ∷ []) (gtrid_params g)) (chosen gtrid_tests (gtrid_params g) rows)) found) where
  picked : List Row
  picked = filter (λ r. eq_by_cmp gtrid_cmp g (gtrid_of_row r)) rows

  ids : IsPermutation (map (λ r. id_in (rowid r)) picked) (ids_of found)
  unfolding picked
  ids = subst (λ xs. IsPermutation xs (ids_of found))
      (shown_ids _ (gtrid_params g) ∙ ap (map (λ r. id_in (rowid r))) (chosen_gtrid g rows all)) (IsPermutation-map (λ r. id_in (rowid r)) _ _ answer)

  pub gone_has : (r : Row) → Has rows r → eq_by_cmp gtrid_cmp g (gtrid_of_row r) ≡ true → Has (ids_of found) (id_in (rowid r))
  unfolding picked
  gone_has r h is = permuted_has _ _ _ ids (mapped_has (λ r. id_in (rowid r)) picked r (has_kept _ rows r h is))

  pub has_gone : (id : ℤ) → Has (ids_of found) id → (r : Row) × Has rows r × (eq_by_cmp gtrid_cmp g (gtrid_of_row r) ≡ true) × (id ≡ id_in (rowid r))
  unfolding picked
  has_gone id h =
      let was = has_mapped (λ r. id_in (rowid r)) picked id (permuted_has _ _ id (IsPermutation-sym _ _ ids) h) in
      let from = has_filtered _ rows was.0 was.1 in
      (was.0, from.0, from.1, was.2)

pub same_as : (a b c : Gtrid) → eq_by_cmp gtrid_cmp a c ≡ true → eq_by_cmp gtrid_cmp b c ≡ true → a ≡ b
same_as a b c p q = exact_gtrids a c (equal_is _ p) ∙ sym (exact_gtrids b c (equal_is _ q))

pub is_itself : (g : Gtrid) → eq_by_cmp gtrid_cmp g g ≡ true
is_itself g = ap is_eq (tied_itself gtrids_total g)

int_rowid : (r : Row) → IsDecisionRow r → rowid r ≡ Int (id_in (rowid r))
int_rowid r is = ap rowid is.2 ∙ sym (ap (λ x. Int (id_in (rowid x))) is.2)

pub has_own : (r : Row) → IsDecisionRow r → has_rowid (id_in (rowid r)) r ≡ true
has_own r is = subst (λ v. is_eq (value_cmp v (Int (id_in (rowid r)))) ≡ true) (sym (int_rowid r is)) (same_id (id_in (rowid r)))

module _ (g : Gtrid) (rows found : List Row) (up : IsTable rows) (all : AllByRecursion IsDecisionRow rows)
    (answer : IsPermutation (map (shown (col 1 0 ∷ []) (gtrid_params g)) (chosen gtrid_tests (gtrid_params g) rows)) found) where
  left : List Row
  left = without_all rows (ids_of found)

  -- what is left is of another gtrid
  other_left : (q : Gtrid) (r : Row) → Has left r → eq_by_cmp gtrid_cmp q (gtrid_of_row r) ≡ true → eq_by_cmp gtrid_cmp q g ≡ false
  unfolding left
  other_left q r h is = elim (cases_Bool (eq_by_cmp gtrid_cmp q g)) [
    | inl same ↦ absurd (
        let was = has_left (ids_of found) rows r h in
        let e : g ≡ q = sym (exact_gtrids q g (equal_is _ same)) in
        let in_g : eq_by_cmp gtrid_cmp g (gtrid_of_row r) ≡ true = subst (λ x. eq_by_cmp gtrid_cmp x (gtrid_of_row r) ≡ true) (sym e) is in
        true≢false (sym (has_own r (all_has _ rows r all was.0)) ∙ was.1 (id_in (rowid r)) (gone_has g rows found up all answer r was.0 in_g)))
    | inr apart ↦ apart
  ]

  -- a row of another gtrid is left
  left_other : (q : Gtrid) (r : Row) → Has rows r → eq_by_cmp gtrid_cmp q (gtrid_of_row r) ≡ true → eq_by_cmp gtrid_cmp q g ≡ false → Has left r
  unfolding left
  left_other q r h is apart = left_has (ids_of found) rows r h (λ id k. elim (cases_Bool (has_rowid id r)) [
    | inl tied ↦ absurd (
        let was = has_gone g rows found up all answer id k in
        let there = all_has _ rows was.0 all was.1 in
        let tie : value_cmp (rowid r) (rowid was.0) ≡ Equal = ap (value_cmp (rowid r)) (int_rowid was.0 there ∙ ap Int (sym was.3)) ∙ equal_is _ tied in
        let one : r ≡ was.0 = tied_same rows r was.0 up h was.1 tie in
        let e : q ≡ g = same_as q g (gtrid_of_row r) is (subst (λ x. eq_by_cmp gtrid_cmp g (gtrid_of_row x) ≡ true) (sym one) was.2) in
        true≢false (sym (is_itself g) ∙ subst (λ x. eq_by_cmp gtrid_cmp x g ≡ false) e apart))
    | inr other ↦ other
  ])

  any_left : (q : Gtrid) → list_any (λ r. eq_by_cmp gtrid_cmp q (gtrid_of_row r)) left
      ≡ (not (eq_by_cmp gtrid_cmp q g) && list_any (λ r. eq_by_cmp gtrid_cmp q (gtrid_of_row r)) rows)
  unfolding left
  any_left q = both_ways _ _
      (λ h. let some = some_has _ left h in
      let was = has_left (ids_of found) rows some.0 some.1 in
      rw (other_left q some.0 some.1 some.2) (some_from _ rows some.0 was.0 some.2))
      (λ h. let parts = and_parts _ _ h in
      let some = some_has _ rows parts.1 in
      some_from _ left some.0 (left_other q some.0 some.1 some.2 (not_true _ parts.0)) some.2)

  pub any_gone : (q : Gtrid)
      → list_any (λ r. eq_by_cmp gtrid_cmp q (gtrid_of_row r)) (without_all rows (ids_of found))
      ≡ (not (eq_by_cmp gtrid_cmp q g) && list_any (λ r. eq_by_cmp gtrid_cmp q (gtrid_of_row r)) rows)
  unfolding left
  any_gone q = any_left q
