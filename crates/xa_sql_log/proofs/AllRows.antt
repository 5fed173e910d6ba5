-- What the queries of whole tables answer, as lists of the content.
use Rattle.std.proofs.Common.{◌≡◌, inl, inr, List, [], ◌∷◌, ◌++◌, map, reverse, true, ◌&&◌, cond, Some, None, is_some, IsSomeAnd, refl, sym, ap, subst, ◌∙◌, is_eq, Less}
use Rattle.std.specs.Ordering.{eq_by_cmp, ordering_then}
use Rattle.std.specs.Cmp.{tied_itself}
use Rattle.std.specs.List.{AllByRecursion}
use Rattle.std.specs.List.Sorted.{IsPermutation, IsStrictlySortedBy}
use Rattle.std.specs.FinMap.{FinMap, get, get-entries, entries, entries_sorted, keys, from_entries, contains_key-keys}
use Rattle.std.proofs.lemmas.Bool.{and_parts}
use Rattle.std.proofs.lemmas.List.Sorted.{IsPermutation-map, IsPermutation-sym, IsPermutation-reverse}
use Rattle.sqlite.specs.Order.{Row}
use Rattle.sqlite.specs.Term.{Term, col}
use Rattle.sqlite.specs.State.{State, Shown, IsUnchanged}
use Rattle.sqlite.proofs.Callers.{reads_as}
use Rattle.sqlite_rules.specs.Lists.{Has}
use Rattle.sqlite_rules.proofs.ListLemmas.{all_has, some_has, some_from, has_left, has_right, has_either}
use Rattle.sqlite_rules.proofs.ProbeLemmas.{has_mapped, mapped_has}
use Rattle.sqlite_trees.proofs.ListLemmas.{map-map}
use Rattle.xa_base.specs.declared.branch.Gtrid.{Gtrid}
use Rattle.xa_base.specs.declared.branch.Branch.{Branch}
use Rattle.xa_base.specs.declared.code.How.{How}
use Rattle.xa_base.specs.Branch.{gtrid_cmp, branch_cmp}
use Rattle.xa_base.proofs.BranchOrder.{gtrids_total, exact_gtrids, branches_total, exact_branches}
use Rattle.xa_log.specs.Content.{all_listed}
use Rattle.xa_log.specs.KeySet.{KeySet, contains, contains-from_list, contains-items, from_list, items, same_set}
use Rattle.xa_sql_log.specs.Tables.{log_schema}
use Rattle.xa_sql_log.specs.Rows.{IsLog, HasDecision, branch_from, branch_of_row, content_of, gtrid_from, gtrid_of_row, heuristic_from, participants_of_rows}
use Rattle.xa_sql_log.specs.Sql.{IsOrderly, content_in}
use Rattle.xa_sql_log.proofs.Texts.{all_decisions, all_decisions_is, all_decisions_plain, all_decisions_unlisted, all_participants, all_participants_is, all_participants_plain, all_participants_unlisted, all_heuristics, all_heuristics_is, all_heuristics_plain, all_heuristics_unlisted}
use Rattle.xa_sql_log.proofs.Plain.{chosen, shown, plain_rows}
use Rattle.xa_base.proofs.Lists.{list_any-map}
use Rattle.xa_sql_log.proofs.Contents.{is_itself, permuted_has}
use Rattle.xa_sql_log.proofs.Maps.{booked, contains_part, get_booked, is_there, names, some_is}
use Rattle.xa_sql_log.proofs.DecisionReads.{some_of}
use Rattle.xa_sql_log.proofs.HeuristicReads.{entries_once, entry_in}
use Rattle.xa_sql_log.proofs.SameEntries.{append_rises, find_has, has_find, items_rise, rising_once, same_entries_in, same_items_in}
use Rattle.xa_log.proofs.KeySets.{items-from_list}
use Rattle.xa_sql_log.proofs.StatesAfter.{answered}
use Rattle.xa_log.proofs.Rising.{risen}
use Rattle.xa_base.proofs.Orders.{equal_is}

-- with no WHERE each row passes
all_pass : (params : Row) (rows : List Row) → chosen [] params rows ≡ rows
all_pass params [] = refl
all_pass params (r ∷ rows) = ap (λ all. r ∷ all) (all_pass params rows)

-- what is read of the answer is what is read of the rows, in some order
same_reading : {X : Type 0} (from into : Row → X) (terms : List Term) → ((r : Row) → from (shown terms [] r) ≡ into r)
    → (all rows : List Row) → IsPermutation (map (shown terms []) (chosen [] [] all)) rows
    → IsPermutation (map into all) (map from rows)
same_reading from into terms reads all rows moved =
    subst (λ xs. IsPermutation xs (map from rows))
    (map-map from (shown terms []) (chosen [] [] all) ∙ each (chosen [] [] all) ∙ ap (map into) (all_pass [] all)) (IsPermutation-map from _ rows moved)
  where
    each : (xs : List Row) → map (λ r. from (shown terms [] r)) xs ≡ map into xs
    each [] = refl
    each (r ∷ xs) = λ i. reads r i ∷ each xs i

-- ---- the transactions

keys_booked : (parts : Gtrid → KeySet branch_cmp) (rows : List Row) → items (from_list {R = gtrid_cmp} (map gtrid_of_row rows)) ≡ keys (booked parts rows)
keys_booked parts rows =
    let m = booked parts rows in
    ap items (same_set gtrids_total exact_gtrids (from_list (map gtrid_of_row rows)) (from_list (keys m)) (λ q.
    contains-from_list gtrids_total (map gtrid_of_row rows) q ∙ list_any-map (eq_by_cmp gtrid_cmp q) gtrid_of_row rows
    ∙ sym (some_of (is_there rows q) (parts q)) ∙ ap is_some (sym (get_booked parts rows q))
    ∙ contains_key-keys m q ∙ sym (contains-from_list gtrids_total (keys m) q)))
    ∙ items-from_list gtrids_total (keys m) (risen gtrid_cmp (entries m) (entries_sorted m))

reads_decisions : (old new : State) (rows : List Row) → IsLog old.now → Shown all_decisions [] old new rows
    → items (from_list {R = gtrid_cmp} (map gtrid_from rows)) ≡ keys (content_of old.now.trees).decisions
reads_decisions old new rows log h =
    let read = reads_as all_decisions [] old new log_schema log.schema _ all_decisions_is all_decisions_plain all_decisions_unlisted rows h in
    let moved =
    same_reading gtrid_from gtrid_of_row (col 1 1 ∷ col 1 2 ∷ []) (λ r. refl) (old.now.trees 1) rows
    (plain_rows 1 [] (col 1 1 ∷ col 1 2 ∷ []) old.now.trees [] rows read.answer) in
    ap items (same_items_in gtrids_total exact_gtrids (map gtrid_from rows) (map gtrid_of_row (old.now.trees 1))
    (λ x. permuted_has _ _ x (IsPermutation-sym _ _ moved)) (λ x. permuted_has _ _ x moved))
    ∙ keys_booked (participants_of_rows (old.now.trees 5)) (old.now.trees 1)

-- ---- the participants

has_listed : (es : List (Gtrid × KeySet branch_cmp)) (b : Branch) → Has (all_listed es) b → (e : Gtrid × KeySet branch_cmp) × Has es e × Has (items e.1) b
has_listed [] b h = absurd h
has_listed (e ∷ es) b h = elim (has_either (items e.1) (all_listed es) b h) [
  | inl here ↦ (e, inl refl, here)
  | inr later ↦ (let was = has_listed es b later in (was.0, inr was.1, was.2))
]

listed_has : (es : List (Gtrid × KeySet branch_cmp)) (e : Gtrid × KeySet branch_cmp) (b : Branch) → Has es e → Has (items e.1) b → Has (all_listed es) b
listed_has [] e b h k = absurd h
listed_has (f ∷ es) e b (inl same) k = has_left (items f.1) (all_listed es) b (subst (λ (x : Gtrid × KeySet branch_cmp). Has (items x.1) b) same k)
listed_has (f ∷ es) e b (inr later) k = has_right (items f.1) (all_listed es) b (listed_has es e b later k)

abbrev IsOwn : Gtrid × KeySet branch_cmp → Type 0
IsOwn e = (b : Branch) → Has (items e.1) b → b.gtrid ≡ e.0

listed_rises : (es : List (Gtrid × KeySet branch_cmp))
    → IsStrictlySortedBy gtrid_cmp (map (λ (e : Gtrid × KeySet branch_cmp). e.0) es) → ((e : Gtrid × KeySet branch_cmp) → Has es e → IsOwn e)
    → IsStrictlySortedBy branch_cmp (all_listed es)
unfolding IsStrictlySortedBy
listed_rises [] up own = tt
listed_rises (e ∷ es) up own =
    append_rises branch_cmp (items e.1) (all_listed es) (items_rise branches_total exact_branches e.1) (listed_rises es up.1 (λ x h. own x (inr h))) (λ x y h k.
    let later = has_listed es y k in
    let low =
    all_has (λ g. gtrid_cmp e.0 g ≡ Less) (map (λ (x : Gtrid × KeySet branch_cmp). x.0) es) later.0.0 up.0
    (mapped_has (λ (x : Gtrid × KeySet branch_cmp). x.0) es later.0 later.1) in
    let mine : x.gtrid ≡ e.0 = own e (inl refl) x h in
    let other : y.gtrid ≡ later.0.0 = own later.0 (inr later.1) y later.2 in
    let below : gtrid_cmp x.gtrid y.gtrid ≡ Less = ap (λ g. gtrid_cmp g y.gtrid) mine ∙ ap (gtrid_cmp e.0) other ∙ low in
    ap (λ r. ordering_then r (ordering_then (Rattle.std.proofs.Common.nat_cmp x.thread y.thread) (Rattle.std.proofs.Common.nat_cmp x.rm y.rm))) below)

-- an item of a set ties with a member
member : (set : KeySet branch_cmp) (b : Branch) → Has (items set) b → contains set b ≡ true
member set b h = contains-items set b ∙ some_from (eq_by_cmp branch_cmp b) (items set) b h (ap is_eq (tied_itself branches_total b))

item : (set : KeySet branch_cmp) (b : Branch) → contains set b ≡ true → Has (items set) b
item set b is =
    let one = some_has (eq_by_cmp branch_cmp b) (items set) (sym (contains-items set b) ∙ is) in
    subst (Has (items set)) (sym (exact_branches b one.0 (equal_is _ one.2))) one.1

module _ (decisions rows : List Row) (parents : AllByRecursion (HasDecision decisions) rows) where
  m : FinMap gtrid_cmp (KeySet branch_cmp)
  m = booked (participants_of_rows rows) decisions

  up : IsStrictlySortedBy gtrid_cmp (map (λ (e : Gtrid × KeySet branch_cmp). e.0) (entries m))
  up = risen gtrid_cmp (entries m) (entries_sorted m)

  -- an entry has the participants of its transaction
  entry_is : (e : Gtrid × KeySet branch_cmp) → Has (entries m) e → e.1 ≡ participants_of_rows rows e.0
  unfolding m
  entry_is e h =
      let found = get-entries m e.0 ∙ has_find gtrids_total exact_gtrids e.0 e.1 (entries m) (rising_once gtrids_total (entries m) up) h in
      sym (some_is (is_there decisions e.0) (participants_of_rows rows e.0) e.1 (sym (get_booked (participants_of_rows rows) decisions e.0) ∙ found)).1

  -- a participant that an entry has is that of a row
  row_of : (e : Gtrid × KeySet branch_cmp) (b : Branch) → Has (entries m) e → Has (items e.1) b
      → (r : Row) × Has rows r × (e.0 ≡ gtrid_of_row r) × (b ≡ branch_of_row r)
  row_of e b h k =
      let there = sym (contains_part rows e.0 b) ∙ ap (λ set. contains set b) (sym (entry_is e h)) ∙ member e.1 b k in
      let some = some_has (names e.0 b) rows there in
      let parts = and_parts _ _ some.2 in
      (some.0, some.1, exact_gtrids e.0 (gtrid_of_row some.0) (equal_is _ parts.0), exact_branches b (branch_of_row some.0) (equal_is _ parts.1))

  own : (e : Gtrid × KeySet branch_cmp) → Has (entries m) e → IsOwn e
  own e h b k = let r = row_of e b h k in ap (λ (x : Branch). x.gtrid) r.3 ∙ sym r.2

  into : (b : Branch) → Has (all_listed (entries m)) b → Has (map branch_of_row rows) b
  into b h =
      let was = has_listed (entries m) b h in
      let r = row_of was.0 b was.1 was.2 in
      subst (Has (map branch_of_row rows)) (sym r.3) (mapped_has branch_of_row rows r.0 r.1)

  back : (b : Branch) → Has (map branch_of_row rows) b → Has (all_listed (entries m)) b
  unfolding m
  back b h =
      let r = has_mapped branch_of_row rows b h in
      let g = gtrid_of_row r.0 in
      let set = participants_of_rows rows g in
      let there : get m g ≡ Some set =
      get_booked (participants_of_rows rows) decisions g ∙ ap (λ t. cond t (Some set) None) (all_has (HasDecision decisions) rows r.0 parents r.1) in
      let entry = find_has gtrids_total exact_gtrids g set (entries m) (sym (get-entries m g) ∙ there) in
      let named : names g (branch_of_row r.0) r.0 ≡ true =
      ap (λ t. t && eq_by_cmp branch_cmp (branch_of_row r.0) (branch_of_row r.0)) (is_itself g)
      ∙ ap is_eq (tied_itself branches_total (branch_of_row r.0)) in
      let listed = item set (branch_of_row r.0) (contains_part rows g (branch_of_row r.0) ∙ some_from (names g (branch_of_row r.0)) rows r.0 r.1 named) in
      listed_has (entries m) (g, set) b entry (subst (Has (items set)) (sym r.2) listed)

  listed_booked : items (from_list {R = branch_cmp} (map branch_of_row rows)) ≡ all_listed (entries m)
  listed_booked =
      ap items (same_items_in branches_total exact_branches (map branch_of_row rows) (all_listed (entries m)) back into)
      ∙ items-from_list branches_total (all_listed (entries m)) (listed_rises (entries m) up own)

  pub all_listed_is : items (from_list {R = branch_cmp} (map branch_of_row rows)) ≡ all_listed (entries (booked (participants_of_rows rows) decisions))
  unfolding m
  all_listed_is = listed_booked

reads_participants : (old new : State) (rows : List Row) → IsLog old.now → Shown all_participants [] old new rows
    → items (from_list {R = branch_cmp} (map branch_from rows)) ≡ all_listed (entries (content_of old.now.trees).decisions)
reads_participants old new rows log h =
    let terms = col 1 1 ∷ col 1 2 ∷ col 1 3 ∷ col 1 4 ∷ [] in
    let read = reads_as all_participants [] old new log_schema log.schema _ all_participants_is all_participants_plain all_participants_unlisted rows h in
    let moved = same_reading branch_from branch_of_row terms (λ r. refl) (old.now.trees 5) rows (plain_rows 5 [] terms old.now.trees [] rows read.answer) in
    ap items (same_items_in branches_total exact_branches (map branch_from rows) (map branch_of_row (old.now.trees 5))
    (λ x. permuted_has _ _ x (IsPermutation-sym _ _ moved)) (λ x. permuted_has _ _ x moved))
    ∙ all_listed_is (old.now.trees 1) (old.now.trees 5) log.parents

-- ---- the heuristic ends

reads_heuristics : (old new : State) (rows : List Row) → IsLog old.now → Shown all_heuristics [] old new rows
    → entries (from_entries {R = branch_cmp} (reverse (map heuristic_from rows))) ≡ entries (content_of old.now.trees).heuristics
reads_heuristics old new rows log h =
    let terms = col 1 1 ∷ col 1 2 ∷ col 1 3 ∷ col 1 4 ∷ col 1 5 ∷ [] in
    let read = reads_as all_heuristics [] old new log_schema log.schema _ all_heuristics_is all_heuristics_plain all_heuristics_unlisted rows h in
    let moved = same_reading heuristic_from entry_in terms (λ r. refl) (old.now.trees 3) rows (plain_rows 3 [] terms old.now.trees [] rows read.answer) in
    let ends = map heuristic_from rows in
    let turn = IsPermutation-reverse ends in
    ap entries (same_entries_in branches_total exact_branches (reverse ends) (map entry_in (old.now.trees 3))
    (λ x h. permuted_has _ _ x (IsPermutation-sym _ _ moved) (permuted_has _ _ x (IsPermutation-sym _ _ turn) h))
    (λ x h. permuted_has _ _ x turn (permuted_has _ _ x moved h))
    (entries_once (old.now.trees 3) log.heuristics.once))

-- ---- the calls that ask, from the log before them to the log after them

module _ (old mid new : State) (rows : List Row) (order : IsOrderly old) (first : IsUnchanged old mid) (second : IsUnchanged mid new) where
  pub told_decisions : Shown all_decisions [] mid new rows → (list : List Gtrid)
      → list ≡ items (from_list {R = gtrid_cmp} (map gtrid_from rows)) → IsSomeAnd (content_in old) (λ c. (content_in new ≡ Some c) × (list ≡ keys c.decisions))
  told_decisions shown list is = answered old mid new order first second (λ c. list ≡ keys c.decisions) (λ log. is ∙ reads_decisions mid new rows log shown)

  pub told_all : Shown all_participants [] mid new rows → (list : List Branch)
      → list ≡ items (from_list {R = branch_cmp} (map branch_from rows))
      → IsSomeAnd (content_in old) (λ c. (content_in new ≡ Some c) × (list ≡ all_listed (entries c.decisions)))
  told_all shown list is =
      answered old mid new order first second (λ c. list ≡ all_listed (entries c.decisions)) (λ log. is ∙ reads_participants mid new rows log shown)

  pub told_ends : Shown all_heuristics [] mid new rows → (list : List (Branch × How))
      → list ≡ entries (from_entries {R = branch_cmp} (reverse (map heuristic_from rows)))
      → IsSomeAnd (content_in old) (λ c. (content_in new ≡ Some c) × (list ≡ entries c.heuristics))
  told_ends shown list is = answered old mid new order first second (λ c. list ≡ entries c.heuristics) (λ log. is ∙ reads_heuristics mid new rows log shown)
