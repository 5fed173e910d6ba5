-- What a change of the rows of decisions and of participants does to the map that they stand for.
use Rattle.std.proofs.Common.{◌≡◌, inl, inr, ℤ, List, [], ◌∷◌, map, filter, Bool, true, false, not, ◌&&◌, ◌||◌, cond, Some, None, unwrap_or, refl, sym, ap, subst, ◌∙◌}
use Rattle.std.specs.Ordering.{eq_by_cmp}
use Rattle.std.specs.Cmp.{both_ways}
use Rattle.std.specs.List.{AllByRecursion, list_any}
use Rattle.std.specs.FinMap.{FinMap, get, from_entries, find, get-from_entries, get-insert, get-remove, same_map, insert as put, remove}
use Rattle.xa_log.specs.KeySet.{KeySet, contains, insert, empty, same_set, contains-from_list, contains-insert, contains-empty}
use Rattle.std.proofs.lemmas.Bool.{cases_Bool, true≢false, and_parts}
use Rattle.sqlite.specs.declared.types.Value.TheVariants.{Int}
use Rattle.sqlite.specs.Order.{Row}
use Rattle.sqlite.specs.Tree.{IsTable, put_row, rowid, has_rowid}
use Rattle.sqlite.specs.Edit.{is_taken, without_all}
use Rattle.sqlite_value.specs.Order.{value_cmp}
use Rattle.sqlite_rules.specs.Lists.{Has}
use Rattle.sqlite_rules.proofs.ListLemmas.{all_has, some_has, some_from}
use Rattle.sqlite_rules.proofs.PlaceLemmas.{tied_same}
use Rattle.xa_base.specs.declared.branch.Gtrid.{Gtrid}
use Rattle.xa_base.specs.declared.branch.Branch.{Branch}
use Rattle.xa_base.specs.Branch.{gtrid_cmp, branch_cmp, gtrid_eq}
use Rattle.xa_base.proofs.BranchOrder.{gtrids_total, exact_gtrids, branches_total, exact_branches}
use Rattle.xa_sql_log.specs.Rows.{gtrid_of_row, branch_of_row, participants_of_rows, HasDecision}
use Rattle.xa_base.proofs.Lists.{list_any-map}
use Rattle.xa_sql_log.proofs.Contents.{any_put, has_left, left_has, is_itself}
use Rattle.xa_base.proofs.Orders.{equal_is}

-- ---- the map, as lookups

abbrev pub is_there : List Row → Gtrid → Bool
is_there rows q = list_any (λ r. gtrid_eq q (gtrid_of_row r)) rows

abbrev pub booked : (Gtrid → KeySet branch_cmp) → List Row → FinMap gtrid_cmp (KeySet branch_cmp)
booked parts rows = from_entries (map (λ row. (gtrid_of_row row, parts (gtrid_of_row row))) rows)

found_in : (parts : Gtrid → KeySet branch_cmp) (rows : List Row) (q : Gtrid)
    → find gtrid_cmp q (map (λ row. (gtrid_of_row row, parts (gtrid_of_row row))) rows) ≡ cond (is_there rows q) (Some (parts q)) None
found_in parts [] q = refl
found_in parts (r ∷ rows) q = elim (cases_Bool (gtrid_eq q (gtrid_of_row r))) [
  | inl same ↦ rw same (ap (λ g. Some (parts g)) (sym (exact_gtrids q (gtrid_of_row r) (equal_is _ same))))
  | inr apart ↦ rw apart (found_in parts rows q)
]

pub get_booked : (parts : Gtrid → KeySet branch_cmp) (rows : List Row) (q : Gtrid) → get (booked parts rows) q ≡ cond (is_there rows q) (Some (parts q)) None
get_booked parts rows q = get-from_entries gtrids_total _ q ∙ found_in parts rows q

-- ---- the participants of one transaction

pub any_filtered : {X : Type 0} (p t : X → Bool) (xs : List X) → list_any p (filter t xs) ≡ list_any (λ x. t x && p x) xs
any_filtered p t [] = refl
any_filtered p t (x ∷ xs) = elim (t x) as (λ b. list_any p (cond b (x ∷ filter t xs) (filter t xs)) ≡ ((b && p x) || list_any (λ x. t x && p x) xs)) [
  | true ↦ ap (λ b. p x || b) (any_filtered p t xs)
  | false ↦ any_filtered p t xs
]

abbrev pub names : Gtrid → Branch → Row → Bool
names q x r = gtrid_eq q (gtrid_of_row r) && eq_by_cmp branch_cmp x (branch_of_row r)

pub contains_part : (rows : List Row) (q : Gtrid) (x : Branch) → contains (participants_of_rows rows q) x ≡ list_any (names q x) rows
contains_part rows q x =
    contains-from_list branches_total _ x ∙ any_filtered (eq_by_cmp branch_cmp x) (λ b. gtrid_eq q b.gtrid) (map branch_of_row rows)
    ∙ list_any-map (λ b. gtrid_eq q b.gtrid && eq_by_cmp branch_cmp x b) branch_of_row rows

pub parts_put : (new : Row) (rows : List Row) → is_taken rows new ≡ false → (q : Gtrid)
    → participants_of_rows (put_row new rows) q
    ≡ cond (gtrid_eq q (gtrid_of_row new)) (insert (participants_of_rows rows q) (branch_of_row new)) (participants_of_rows rows q)
parts_put new rows free q = same_set branches_total exact_branches _ _ (λ x.
    let into : contains (participants_of_rows (put_row new rows) q) x ≡ (names q x new || contains (participants_of_rows rows q) x) =
    contains_part (put_row new rows) q x ∙ any_put (names q x) new rows free ∙ ap (λ b. names q x new || b) (sym (contains_part rows q x)) in
    elim (cases_Bool (gtrid_eq q (gtrid_of_row new))) [
      | inl same ↦ into ∙ rw same (sym (contains-insert branches_total (participants_of_rows rows q) (branch_of_row new) x))
      | inr apart ↦ into ∙ rw apart refl
    ])

-- a transaction with no row has no participants
no_parts : (decisions rows : List Row) (g : Gtrid) → AllByRecursion (HasDecision decisions) rows → is_there decisions g ≡ false
    → participants_of_rows rows g ≡ empty
no_parts decisions rows g parents none = same_set branches_total exact_branches _ _ (λ x. contains_part rows g x ∙ lacks x ∙ sym (contains-empty branch_cmp x))
  where
    lacks : (x : Branch) → list_any (names g x) rows ≡ false
    lacks x = elim (cases_Bool (list_any (names g x) rows)) [
      | inl some ↦ absurd (
          let one = some_has _ rows some in
          let of : g ≡ gtrid_of_row one.0 = exact_gtrids g (gtrid_of_row one.0) (equal_is _ (and_parts _ _ one.2).0) in
          true≢false (sym (all_has _ rows one.0 parents one.1) ∙ subst (λ q. is_there decisions q ≡ false) of none))
      | inr none ↦ none
    ]

-- the rows of a transaction are its entry, or there is no row
pub parts_of : (decisions rows : List Row) (g : Gtrid) → AllByRecursion (HasDecision decisions) rows
    → unwrap_or (get (booked (participants_of_rows rows) decisions) g) empty ≡ participants_of_rows rows g
parts_of decisions rows g parents = ap (λ o. unwrap_or o empty) (get_booked (participants_of_rows rows) decisions g)
    ∙ elim (cases_Bool (is_there decisions g)) as
    (λ _. unwrap_or (cond (is_there decisions g) (Some (participants_of_rows rows g)) None) empty ≡ participants_of_rows rows g) [
      | inl there ↦ ap (λ b. unwrap_or (cond b (Some (participants_of_rows rows g)) None) empty) there
      | inr none ↦ ap (λ b. unwrap_or (cond b (Some (participants_of_rows rows g)) None) empty) none ∙ sym (no_parts decisions rows g parents none)
    ]

-- ---- the rows of a transaction are taken out

module _ (g : Gtrid) (rows : List Row) (ids : List ℤ) (up : IsTable rows)
    (sound : (id : ℤ) → Has ids id → (r : Row) × Has rows r × (gtrid_eq g (gtrid_of_row r) ≡ true) × (rowid r ≡ Int id)) where
  stays : (q : Gtrid) (r : Row) → gtrid_eq q g ≡ false → Has rows r → gtrid_eq q (gtrid_of_row r) ≡ true → Has (without_all rows ids) r
  stays q r apart h is = left_has ids rows r h (λ id k. elim (cases_Bool (has_rowid id r)) [
    | inl tied ↦ absurd (
        let was = sound id k in
        let one : r ≡ was.0 = tied_same rows r was.0 up h was.1 (ap (value_cmp (rowid r)) was.3 ∙ equal_is _ tied) in
        let mine : q ≡ gtrid_of_row r = exact_gtrids q (gtrid_of_row r) (equal_is _ is) in
        let other : g ≡ gtrid_of_row was.0 = exact_gtrids g (gtrid_of_row was.0) (equal_is _ was.2) in
        let same : q ≡ g = mine ∙ ap gtrid_of_row one ∙ sym other in
        true≢false (sym (is_itself g) ∙ subst (λ x. gtrid_eq x g ≡ false) same apart))
    | inr free ↦ free
  ])

  pub parts_left : (q : Gtrid) → gtrid_eq q g ≡ false → participants_of_rows (without_all rows ids) q ≡ participants_of_rows rows q
  parts_left q apart = same_set branches_total exact_branches _ _ (λ x. contains_part (without_all rows ids) q x ∙ both_ways _ _
      (λ h. let one = some_has _ (without_all rows ids) h in some_from _ rows one.0 (has_left ids rows one.0 one.1).0 one.2)
      (λ h. let one = some_has _ rows h in some_from _ (without_all rows ids) one.0 (stays q one.0 apart one.1 (and_parts _ _ one.2).0) one.2)
      ∙ sym (contains_part rows q x))

-- ---- the map after each change

pub some_is : (b : Bool) {X : Type 0} (x y : X) → cond b (Some x) None ≡ Some y → (b ≡ true) × (x ≡ y)
some_is true x y e = (refl, cc)
some_is false x y e = absurd cc

none_is : (b : Bool) {X : Type 0} (x : X) → cond b (Some x) None ≡ None → b ≡ false
none_is true x e = absurd cc
none_is false x e = refl

-- a row of decision went in where there was none of its transaction
pub booked_decision : (g : Gtrid) (new : Row) (decisions rows : List Row) → is_taken decisions new ≡ false → gtrid_of_row new ≡ g
    → AllByRecursion (HasDecision decisions) rows
    → get (booked (participants_of_rows rows) decisions) g ≡ None
    → booked (participants_of_rows rows) (put_row new decisions) ≡ put (booked (participants_of_rows rows) decisions) g empty
booked_decision g new decisions rows free named parents absent = same_map gtrids_total exact_gtrids _ _ (λ q.
    let none : is_there decisions g ≡ false = none_is _ _ (sym (get_booked (participants_of_rows rows) decisions g) ∙ absent) in
    let there : is_there (put_row new decisions) q ≡ (gtrid_eq q g || is_there decisions q) =
    any_put (λ r. gtrid_eq q (gtrid_of_row r)) new decisions free ∙ ap (λ x. gtrid_eq q x || is_there decisions q) named in
    get_booked (participants_of_rows rows) (put_row new decisions) q ∙ ap (λ b. cond b (Some (participants_of_rows rows q)) None) there
    ∙ elim (cases_Bool (gtrid_eq q g)) as (λ _. cond (gtrid_eq q g || is_there decisions q) (Some (participants_of_rows rows q)) None
    ≡ get (put (booked (participants_of_rows rows) decisions) g empty) q) [
      | inl same ↦ (
          let one : q ≡ g = exact_gtrids q g (equal_is _ same) in
          ap (λ b. cond (b || is_there decisions q) (Some (participants_of_rows rows q)) None) same
          ∙ ap Some (ap (participants_of_rows rows) one ∙ no_parts decisions rows g parents none)
          ∙ sym (get-insert gtrids_total (booked (participants_of_rows rows) decisions) g empty q
          ∙ ap (λ b. cond b (Some empty) (get (booked (participants_of_rows rows) decisions) q)) same))
      | inr apart ↦ ap (λ b. cond (b || is_there decisions q) (Some (participants_of_rows rows q)) None) apart
          ∙ sym (get_booked (participants_of_rows rows) decisions q)
          ∙ sym (get-insert gtrids_total (booked (participants_of_rows rows) decisions) g empty q
          ∙ ap (λ b. cond b (Some empty) (get (booked (participants_of_rows rows) decisions) q)) apart)
    ])

-- a participant of a transaction with a row went in
pub booked_participant : (g : Gtrid) (set : KeySet branch_cmp) (before : FinMap gtrid_cmp (KeySet branch_cmp)) (new : Row) (decisions rows : List Row)
    → is_taken rows new ≡ false → gtrid_of_row new ≡ g
    → booked (participants_of_rows rows) decisions ≡ put before g set
    → booked (participants_of_rows (put_row new rows)) decisions ≡ put before g (insert set (branch_of_row new))
booked_participant g set before new decisions rows free named was = same_map gtrids_total exact_gtrids _ _ (λ q.
    let old : cond (is_there decisions q) (Some (participants_of_rows rows q)) None ≡ cond (gtrid_eq q g) (Some set) (get before q) =
    sym (get_booked (participants_of_rows rows) decisions q) ∙ ap (λ m. get m q) was ∙ get-insert gtrids_total before g set q in
    let parts : participants_of_rows (put_row new rows) q
    ≡ cond (gtrid_eq q g) (insert (participants_of_rows rows q) (branch_of_row new)) (participants_of_rows rows q) =
    parts_put new rows free q ∙ ap (λ x. cond (gtrid_eq q x) (insert (participants_of_rows rows q) (branch_of_row new)) (participants_of_rows rows q)) named in
    get_booked (participants_of_rows (put_row new rows)) decisions q ∙ ap (λ s. cond (is_there decisions q) (Some s) None) parts
    ∙ elim (cases_Bool (gtrid_eq q g)) as (λ _.
    cond (is_there decisions q) (Some (cond (gtrid_eq q g) (insert (participants_of_rows rows q) (branch_of_row new)) (participants_of_rows rows q))) None
    ≡ get (put before g (insert set (branch_of_row new))) q) [
      | inl same ↦ (
          let both = some_is _ (participants_of_rows rows q) set (old ∙ ap (λ b. cond b (Some set) (get before q)) same) in
          ap (λ b. cond b (Some (cond (gtrid_eq q g) (insert (participants_of_rows rows q) (branch_of_row new)) (participants_of_rows rows q))) None) both.0
          ∙ ap (λ b. Some (cond b (insert (participants_of_rows rows q) (branch_of_row new)) (participants_of_rows rows q))) same
          ∙ ap (λ s. Some (insert s (branch_of_row new))) both.1
          ∙ sym (get-insert gtrids_total before g (insert set (branch_of_row new)) q
          ∙ ap (λ b. cond b (Some (insert set (branch_of_row new))) (get before q)) same))
      | inr apart ↦
          ap (λ b. cond (is_there decisions q) (Some (cond b (insert (participants_of_rows rows q) (branch_of_row new)) (participants_of_rows rows q))) None)
          apart
          ∙ old ∙ ap (λ b. cond b (Some set) (get before q)) apart
          ∙ sym (get-insert gtrids_total before g (insert set (branch_of_row new)) q
          ∙ ap (λ b. cond b (Some (insert set (branch_of_row new))) (get before q)) apart)
    ])

-- the rows of a transaction went out of both tables
pub booked_without : (g : Gtrid) (decisions left rows rest : List Row) → ((q : Gtrid) → is_there left q ≡ (not (gtrid_eq q g) && is_there decisions q))
    → ((q : Gtrid) → gtrid_eq q g ≡ false → participants_of_rows rest q ≡ participants_of_rows rows q)
    → booked (participants_of_rows rest) left ≡ remove (booked (participants_of_rows rows) decisions) g
booked_without g decisions left rows rest there parts = same_map gtrids_total exact_gtrids _ _ (λ q.
    get_booked (participants_of_rows rest) left q ∙ ap (λ b. cond b (Some (participants_of_rows rest q)) None) (there q)
    ∙ elim (cases_Bool (gtrid_eq q g)) as (λ _. cond (not (gtrid_eq q g) && is_there decisions q) (Some (participants_of_rows rest q)) None
    ≡ get (remove (booked (participants_of_rows rows) decisions) g) q) [
      | inl same ↦ ap (λ b. cond (not b && is_there decisions q) (Some (participants_of_rows rest q)) None) same
          ∙ sym (get-remove gtrids_total (booked (participants_of_rows rows) decisions) g q
          ∙ ap (λ b. cond b None (get (booked (participants_of_rows rows) decisions) q)) same)
      | inr apart ↦ ap (λ b. cond (not b && is_there decisions q) (Some (participants_of_rows rest q)) None) apart
          ∙ ap (λ s. cond (is_there decisions q) (Some s) None) (parts q apart) ∙ sym (get_booked (participants_of_rows rows) decisions q)
          ∙ sym (get-remove gtrids_total (booked (participants_of_rows rows) decisions) g q
          ∙ ap (λ b. cond b None (get (booked (participants_of_rows rows) decisions) q)) apart)
    ])
