-- The participants that a query shows are those of the map.
use Rattle.std.proofs.Common.{◌≡◌, inl, inr, ℤ, pos, List, [], ◌∷◌, map, filter, Bool, true, ◌&&◌, ◌||◌, Some, IsSomeAnd, unwrap_or, refl, sym, ap, subst, ◌∙◌, is_eq, nat_cmp}
use Rattle.std.proofs.lemmas.Bool.{cases_Bool}
use Rattle.std.specs.Ordering.{eq_by_cmp}
use Rattle.std.specs.Cmp.{both_ways}
use Rattle.std.specs.List.{AllByRecursion, list_any, list_all}
use Rattle.std.specs.List.Sorted.{IsPermutation}
use Rattle.xa_log.specs.KeySet.{from_list, items, same_set, contains-from_list, empty}
use Rattle.xa_log.specs.Content.{participants_of}
use Rattle.xa_sql_log.specs.Sql.{IsOrderly, content_in}
use Rattle.xa_sql_log.proofs.StatesAfter.{answered}
use Rattle.std.specs.FinMap.{get}
use Rattle.std.proofs.lemmas.List.Sorted.{IsPermutation-map, IsPermutation-sym}
use Rattle.sqlite.specs.declared.types.Value.TheVariants.{Int}
use Rattle.sqlite.specs.Order.{Row, column}
use Rattle.sqlite.specs.Term.{Term, holds, col}
use Rattle.sqlite.specs.State.{State, Shown, IsUnchanged}
use Rattle.sqlite.proofs.Callers.{reads_as}
use Rattle.sqlite_trees.specs.Objects.{number_in}
use Rattle.sqlite_trees.proofs.ListLemmas.{filter_same, all_weaker}
use Rattle.sqlite_rules.proofs.ListLemmas.{some_has, some_from}
use Rattle.xa_base.specs.declared.branch.Gtrid.{Gtrid}
use Rattle.xa_base.specs.declared.branch.Branch.{Branch}
use Rattle.xa_base.specs.Branch.{branch_cmp, gtrid_eq}
use Rattle.xa_base.proofs.BranchOrder.{exact_gtrids, branches_total, exact_branches}
use Rattle.xa_sql_log.specs.Tables.{log_schema}
use Rattle.xa_sql_log.specs.Rows.{IsLog, IsParticipantRow, participant_row, gtrid_of_row, branch_of_row, participant_from, participants_of_rows, content_of}
use Rattle.xa_sql_log.proofs.Texts.{find_participants, find_participants_is, find_participants_plain, find_participants_unlisted}
use Rattle.xa_sql_log.proofs.Plain.{chosen, shown, plain_rows}
use Rattle.xa_sql_log.proofs.Values.{equal_to}
use Rattle.xa_base.proofs.Lists.{list_any-map}
use Rattle.xa_sql_log.proofs.Contents.{gtrid_params, gtrid_tests, same_number, both_parts, permuted_has}
use Rattle.xa_sql_log.proofs.Maps.{parts_of, names, contains_part, any_filtered}
use Rattle.xa_base.proofs.Orders.{equal_is}

names_branch : (id : ℤ) (b : Branch) (g : Gtrid) → list_all (holds (gtrid_params g ∷ participant_row id b ∷ [])) gtrid_tests ≡ gtrid_eq g b.gtrid
names_branch id b g = ap (λ t. t && (equal_to (Int (pos b.gtrid.sequence)) (Int (pos g.sequence)) && true)) (same_number b.gtrid.incarnation g.incarnation)
    ∙ ap (λ t. is_eq (nat_cmp g.incarnation b.gtrid.incarnation) && (t && true)) (same_number b.gtrid.sequence g.sequence) ∙ both_parts _ _

names_branch_in : (g : Gtrid) (r : Row) → IsParticipantRow r → list_all (holds (gtrid_params g ∷ r ∷ [])) gtrid_tests ≡ gtrid_eq g (gtrid_of_row r)
names_branch_in g r is = rw is.2 (names_branch is.0 is.1 g)

chosen_branch : (g : Gtrid) (rows : List Row) → AllByRecursion IsParticipantRow rows
    → chosen gtrid_tests (gtrid_params g) rows ≡ filter (λ r. gtrid_eq g (gtrid_of_row r)) rows
chosen_branch g rows all = filter_same _ _ rows (all_weaker _ _ (names_branch_in g) rows all)

any_same : {X : Type 0} (p q : X → Bool) → ((x : X) → p x ≡ q x) → (xs : List X) → list_any p xs ≡ list_any q xs
any_same p q same [] = refl
any_same p q same (x ∷ xs) = ap (λ b. b || list_any p xs) (same x) ∙ ap (λ b. q x || b) (any_same p q same xs)

any_permuted : {X : Type 0} (p : X → Bool) (xs ys : List X) → IsPermutation xs ys → list_any p xs ≡ list_any p ys
any_permuted p xs ys same = both_ways _ _
    (λ h. let one = some_has p xs h in some_from p ys one.0 (permuted_has xs ys one.0 same one.1) one.2)
    (λ h. let one = some_has p ys h in some_from p xs one.0 (permuted_has ys xs one.0 (IsPermutation-sym _ _ same) one.1) one.2)

abbrev parts_shown : List Term
parts_shown = col 1 3 ∷ col 1 4 ∷ []

same_branch : (g : Gtrid) (x : Branch) (r : Row)
    → (gtrid_eq g (gtrid_of_row r) && eq_by_cmp branch_cmp x (participant_from g (shown parts_shown (gtrid_params g) r))) ≡ names g x r
same_branch g x r = elim (cases_Bool (gtrid_eq g (gtrid_of_row r))) [
  | inl same ↦ (
      let one : g ≡ gtrid_of_row r = exact_gtrids g (gtrid_of_row r) (equal_is _ same) in
      ap (λ q. gtrid_eq g (gtrid_of_row r) && eq_by_cmp branch_cmp x (record { gtrid = q; thread = number_in (column r 3); rm = number_in (column r 4) })) one)
  | inr apart ↦ ap (λ b. b && eq_by_cmp branch_cmp x (participant_from g (shown parts_shown (gtrid_params g) r))) apart
      ∙ sym (ap (λ b. b && eq_by_cmp branch_cmp x (branch_of_row r)) apart)
]

pub lists : (old new : State) (g : Gtrid) (rows : List Row) → IsLog old.now → Shown find_participants (gtrid_params g) old new rows
    → from_list {R = branch_cmp} (map (participant_from g) rows) ≡ participants_of_rows (old.now.trees 5) g
lists old new g rows is h =
    let read =
    reads_as find_participants (gtrid_params g) old new log_schema is.schema _ find_participants_is find_participants_plain find_participants_unlisted rows h in
    let moved = plain_rows 5 gtrid_tests parts_shown old.now.trees (gtrid_params g) rows read.answer in
    let mine = chosen gtrid_tests (gtrid_params g) (old.now.trees 5) in
    let branches = IsPermutation-map (participant_from g) (map (shown parts_shown (gtrid_params g)) mine) rows moved in
    same_set branches_total exact_branches _ _ (λ x.
    let p = λ (r : Row). eq_by_cmp branch_cmp x (participant_from g (shown parts_shown (gtrid_params g) r)) in
    contains-from_list branches_total (map (participant_from g) rows) x
    ∙ sym (any_permuted (eq_by_cmp branch_cmp x) _ _ branches)
    ∙ list_any-map (eq_by_cmp branch_cmp x) (participant_from g) (map (shown parts_shown (gtrid_params g)) mine)
    ∙ list_any-map (λ row. eq_by_cmp branch_cmp x (participant_from g row)) (shown parts_shown (gtrid_params g)) mine
    ∙ ap (list_any p) (chosen_branch g (old.now.trees 5) is.participants)
    ∙ any_filtered p (λ r. gtrid_eq g (gtrid_of_row r)) (old.now.trees 5)
    ∙ any_same _ (names g x) (same_branch g x) (old.now.trees 5)
    ∙ sym (contains_part (old.now.trees 5) g x))

-- and so of the content
pub lists_entry : (old new : State) (g : Gtrid) (rows : List Row) → IsLog old.now → Shown find_participants (gtrid_params g) old new rows
    → from_list {R = branch_cmp} (map (participant_from g) rows) ≡ unwrap_or (get (content_of old.now.trees).decisions g) empty
lists_entry old new g rows is h = lists old new g rows is h ∙ sym (parts_of (old.now.trees 1) (old.now.trees 5) g is.parents)

-- the call that asks, from the log before it to the log after it
pub told_participants : (g : Gtrid) (params : Row) → params ≡ gtrid_params g → (old mid new : State) (rows : List Row)
    → IsOrderly old → IsUnchanged old mid → IsUnchanged mid new → Shown find_participants params mid new rows
    → (list : List Branch) → list ≡ items (from_list {R = branch_cmp} (map (participant_from g) rows))
    → IsSomeAnd (content_in old) (λ c. (content_in new ≡ Some c) × (list ≡ items (participants_of c g)))
told_participants g params given old mid new rows order first second shown list is =
    answered old mid new order first second (λ c. list ≡ items (participants_of c g))
    (λ log. is ∙ ap items (lists_entry mid new g rows log (subst (λ p. Shown find_participants p mid new rows) given shown)))
