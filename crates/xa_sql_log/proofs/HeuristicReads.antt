-- What the rows of ends stand for, and what a query finds among them.
use Rattle.std.proofs.Common.{◌≡◌, inl, inr, ℤ, List, [], ◌∷◌, map, filter, true, false, ◌&&◌, Some, None, IsSomeAnd, slice_get, unwrap_or, refl, sym, ap, subst, ◌∙◌, is_eq, Ordering, Less, Equal, Greater, nat_cmp}
use Rattle.std.specs.Ordering.{ordering_then}
use Rattle.std.specs.Cmp.{tied_itself}
use Rattle.std.specs.List.{AllByRecursion, list_all}
use Rattle.std.specs.List.Sorted.{IsPermutation}
use Rattle.std.specs.FinMap.{get, find, get-from_entries}
use Rattle.std.proofs.lemmas.Bool.{true≢false}
use Rattle.std.proofs.lemmas.List.Sorted.{IsPermutation-sym}
use Rattle.sqlite.specs.Order.{Row, column}
use Rattle.sqlite.specs.Tree.{IsAscending}
use Rattle.sqlite.specs.Term.{Term, col, holds}
use Rattle.sqlite.specs.State.{State, Shown, IsUnchanged}
use Rattle.sqlite.proofs.Callers.{reads_as}
use Rattle.sqlite_rules.specs.Lists.{Has}
use Rattle.sqlite_rules.proofs.ListLemmas.{all_has, has_filtered, has_kept, has_got}
use Rattle.sqlite_rules.proofs.ProbeLemmas.{has_mapped, mapped_has}
use Rattle.sqlite_trees.proofs.ListLemmas.{filter_same, all_weaker}
use Rattle.xa_base.specs.declared.branch.Branch.{Branch}
use Rattle.xa_base.specs.declared.code.How.{How}
use Rattle.xa_base.specs.declared.code.How.TheVariants as Ends
use Rattle.xa_base.specs.Branch.{branch_cmp, branch_eq}
use Rattle.xa_base.specs.Code.{how_number, how_of_number}
use Rattle.xa_base.proofs.BranchOrder.{branches_total, exact_branches}
use Rattle.xa_sql_log.specs.Tables.{log_schema}
use Rattle.xa_sql_log.specs.Rows.{IsLog, IsHeuristicRow, heuristic_row, branch_from, branch_of_row, heuristic_from, how_of_row, integer_in, content_of}
use Rattle.xa_sql_log.specs.Sql.{IsOrderly, content_in}
use Rattle.xa_sql_log.proofs.Texts.{is, find_heuristic, find_heuristic_is, find_heuristic_plain, find_heuristic_unlisted}
use Rattle.xa_sql_log.proofs.Plain.{chosen, shown, plain_rows}
use Rattle.xa_sql_log.proofs.Contents.{same_number, both_parts, permuted_has}
use Rattle.xa_sql_log.proofs.DecisionRows.{branch_params}
use Rattle.xa_sql_log.proofs.SameEntries.{IsOnce, find_has, has_find}
use Rattle.xa_sql_log.proofs.StatesAfter.{answered}
use Rattle.xa_base.proofs.Orders.{equal_is}

-- ---- the map that the rows stand for

abbrev pub entry_in : Row → Branch × How
entry_in row = (branch_of_row row, how_of_row row)

pub how_read : (how : How) → how_of_number (how_number how) ≡ Some how
how_read Ends.Com = refl
how_read Ends.Rb = refl
how_read Ends.Mix = refl
how_read Ends.Haz = refl

abbrev pub differ : Row → Row → Type 0
differ a b = branch_eq (branch_of_row a) (branch_of_row b) ≡ false

pub apart : (a b : Row) → differ a b → branch_of_row a ≡ branch_of_row b → ⊥
apart a b other same =
    true≢false (sym (ap is_eq (tied_itself branches_total (branch_of_row a))) ∙ subst (λ x. branch_eq (branch_of_row a) x ≡ false) (sym same) other)

one_row : (rows : List Row) → IsAscending differ rows → (a b : Row) → Has rows a → Has rows b → branch_of_row a ≡ branch_of_row b → a ≡ b
one_row [] once a b h k same = absurd h
one_row (r ∷ rows) once a b (inl p) (inl q) same = p ∙ sym q
one_row (r ∷ rows) once a b (inl p) (inr q) same = absurd (apart r b (all_has _ rows b once.0 q) (sym (ap branch_of_row p) ∙ same))
one_row (r ∷ rows) once a b (inr p) (inl q) same = absurd (apart r a (all_has _ rows a once.0 p) (sym (ap branch_of_row q) ∙ sym same))
one_row (r ∷ rows) once a b (inr p) (inr q) same = one_row rows once.1 a b p q same

pub entries_once : (rows : List Row) → IsAscending differ rows → IsOnce (map entry_in rows)
entries_once rows once a b h k same =
    let r = has_mapped entry_in rows a h in
    let s = has_mapped entry_in rows b k in
    let one : r.0 ≡ s.0 = one_row rows once r.0 s.0 r.1 s.1 (sym (ap (λ (e : Branch × How). e.0) r.2) ∙ same ∙ ap (λ (e : Branch × How). e.0) s.2) in
    r.2 ∙ ap entry_in one ∙ sym s.2

-- what a row of an answer says, read column by column
pub entry_read : (row : Row) (b : Branch) (how : How) → b ≡ branch_from row → Some how ≡ how_of_number (integer_in (column row 4))
    → (b, how) ≡ heuristic_from row
entry_read row b how named number =
    let e : how ≡ unwrap_or (how_of_number (integer_in (column row 4))) Ends.Com = ap (λ o. unwrap_or o Ends.Com) number in λ i. (named i, e i)

-- ---- the query

abbrev heuristic_tests : List Term
heuristic_tests = is 1 0 ∷ is 2 1 ∷ is 3 2 ∷ is 4 3 ∷ []

abbrev how_shown : List Term
how_shown = col 1 5 ∷ []

four_parts : (o p q r : Ordering) → (is_eq o && (is_eq p && (is_eq q && (is_eq r && true)))) ≡ is_eq (ordering_then (ordering_then o p) (ordering_then q r))
four_parts Less p q r = refl
four_parts Equal Less q r = refl
four_parts Equal Equal q r = both_parts q r
four_parts Equal Greater q r = refl
four_parts Greater p q r = refl

names_branch : (id : ℤ) (x b : Branch) (how : How) → list_all (holds (branch_params b ∷ heuristic_row id x how ∷ [])) heuristic_tests ≡ branch_eq b x
names_branch id x b how =
    rw (
      same_number x.gtrid.incarnation b.gtrid.incarnation,
      same_number x.gtrid.sequence b.gtrid.sequence,
      same_number x.thread b.thread,
      same_number x.rm b.rm,
    )
    (four_parts (nat_cmp b.gtrid.incarnation x.gtrid.incarnation) (nat_cmp b.gtrid.sequence x.gtrid.sequence) (nat_cmp b.thread x.thread) (nat_cmp b.rm x.rm))

names_branch_in : (b : Branch) (r : Row) → IsHeuristicRow r → list_all (holds (branch_params b ∷ r ∷ [])) heuristic_tests ≡ branch_eq b (branch_of_row r)
names_branch_in b r is = rw is.3 (names_branch is.0 is.1 b is.2)

chosen_heuristic : (b : Branch) (rows : List Row) → AllByRecursion IsHeuristicRow rows
    → chosen heuristic_tests (branch_params b) rows ≡ filter (λ r. branch_eq b (branch_of_row r)) rows
chosen_heuristic b rows all = filter_same _ _ rows (all_weaker _ _ (names_branch_in b) rows all)

module _ (old new : State) (b : Branch) (rows : List Row) (log : IsLog old.now) (h : Shown find_heuristic (branch_params b) old new rows) where
  mine : List Row
  mine = filter (λ r. branch_eq b (branch_of_row r)) (old.now.trees 3)

  answers : IsPermutation (map (shown how_shown (branch_params b)) mine) rows
  unfolding mine
  answers =
      let read =
      reads_as find_heuristic (branch_params b) old new log_schema log.schema _ find_heuristic_is find_heuristic_plain find_heuristic_unlisted rows h in
      subst (λ all. IsPermutation (map (shown how_shown (branch_params b)) all) rows) (chosen_heuristic b (old.now.trees 3) log.heuristics.all)
      (plain_rows 3 heuristic_tests how_shown old.now.trees (branch_params b) rows read.answer)

  looks : get (content_of old.now.trees).heuristics b ≡ find branch_cmp b (map entry_in (old.now.trees 3))
  looks = get-from_entries branches_total (map entry_in (old.now.trees 3)) b

  pub finds_end : (row : Row) (how : How) → slice_get rows 0 ≡ Some row → Some how ≡ how_of_number (integer_in (column row 0))
      → Some how ≡ get (content_of old.now.trees).heuristics b
  unfolding mine
  finds_end row how first number =
      let there = permuted_has rows _ row (IsPermutation-sym _ _ answers) (has_got rows 0 row first) in
      let was = has_mapped (shown how_shown (branch_params b)) mine row there in
      let kept = has_filtered _ (old.now.trees 3) was.0 was.1 in
      let named : b ≡ branch_of_row was.0 = exact_branches b (branch_of_row was.0) (equal_is _ kept.1) in
      let says : Some how ≡ Some (how_of_row was.0) = let e = number ∙ ap (λ r. how_of_number (integer_in (column r 0))) was.2 in
      ap Some (ap (λ o. unwrap_or o Ends.Com) e) in
      let found =
      has_find branches_total exact_branches (branch_of_row was.0) (how_of_row was.0) (map entry_in (old.now.trees 3))
      (entries_once (old.now.trees 3) log.heuristics.once) (mapped_has entry_in (old.now.trees 3) was.0 kept.0) in
      says ∙ sym found ∙ ap (λ x. find branch_cmp x (map entry_in (old.now.trees 3))) (sym named) ∙ sym looks

  pub finds_none : slice_get rows 0 ≡ None → None ≡ get (content_of old.now.trees).heuristics b
  unfolding mine
  finds_none none = elim (get (content_of old.now.trees).heuristics b) as (λ found. get (content_of old.now.trees).heuristics b ≡ found → None ≡ found) [
    | None ↦ λ _. refl
    | Some how ↦ λ is. absurd (
        let was = has_mapped entry_in (old.now.trees 3) (b, how) (find_has branches_total exact_branches b how _ (sym looks ∙ is)) in
        let named : b ≡ branch_of_row was.0 = ap (λ (e : Branch × How). e.0) was.2 in
        let kept =
        has_kept (λ r. branch_eq b (branch_of_row r)) (old.now.trees 3) was.0 was.1
        (subst (λ x. branch_eq b x ≡ true) named (ap is_eq (tied_itself branches_total b))) in
        no_first rows _ none (permuted_has _ rows _ answers (mapped_has (shown how_shown (branch_params b)) mine was.0 kept)))
  ] refl
    where
      no_first : (all : List Row) (x : Row) → slice_get all 0 ≡ None → Has all x → ⊥
      no_first [] x is h = h
      no_first (r ∷ all) x is h = cc

-- the call that asks, from the log before it to the log after it
module _ (b : Branch) (params : Row) (given : params ≡ branch_params b) (old mid new : State) (rows : List Row) (order : IsOrderly old)
    (before : IsUnchanged old mid) (after : IsUnchanged mid new)
    (asked : Shown find_heuristic params mid new rows) where
  here : Shown find_heuristic (branch_params b) mid new rows
  here = subst (λ p. Shown find_heuristic p mid new rows) given asked

  pub found_end : (row : Row) (how : How) → slice_get rows 0 ≡ Some row → Some how ≡ how_of_number (integer_in (column row 0))
      → IsSomeAnd (content_in old) (λ c. (content_in new ≡ Some c) × (Some how ≡ get c.heuristics b))
  found_end row how first number =
      answered old mid new order before after (λ c. Some how ≡ get c.heuristics b) (λ log. finds_end mid new b rows log here row how first number)

  pub found_no_end : slice_get rows 0 ≡ None → IsSomeAnd (content_in old) (λ c. (content_in new ≡ Some c) × (None ≡ get c.heuristics b))
  found_no_end none = answered old mid new order before after (λ c. None ≡ get c.heuristics b) (λ log. finds_none mid new b rows log here none)
