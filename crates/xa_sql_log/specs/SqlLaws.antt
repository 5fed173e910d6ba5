-- The laws of a log in tables: a crash leaves what it holds, where the store's crashes leave the last commit; the participants of a
-- transaction are branches of it; and the numbers of its rows fit.
use Rattle.std.proofs.Common.{◌≡◌, inl, inr, List, [], ◌∷◌, map, filter, Bool, true, Some, None, is_some, IsTrue, Ordering, Less, Equal, Greater, is_eq, refl, sym, ap, subst, ◌∙◌}
use Rattle.std.proofs.lemmas.Bool.{cases_Bool, true≢false}
use Rattle.std.specs.FinMap.{find, get, get-from_entries}
use Rattle.xa_log.specs.KeySet.{KeySet, contains, contains-from_list}
use Rattle.std.specs.List.{AllByRecursion, list_any}
use Rattle.std.specs.Ordering.{eq_by_cmp}
use Rattle.sqlite.specs.Effect.{Database}
use Rattle.sqlite.specs.Order.{Row}
use Rattle.sqlite.specs.State.{State}
use Rattle.sqlite.specs.Tree.{Trees}
use Rattle.xa_base.proofs.BranchOrder.{branches_total, exact_branches, exact_gtrids, gtrids_total}
use Rattle.xa_base.specs.Branch.{branch_cmp, gtrid_cmp, branch_eq, gtrid_eq}
use Rattle.xa_base.specs.declared.branch.Branch.{Branch}
use Rattle.xa_base.specs.declared.branch.Gtrid.{Gtrid}
use Rattle.xa_log.specs.Content.{AreOwn, Content}
use Rattle.xa_log.specs.Contract.{AllFit, FitsRow}
use Rattle.xa_sql_log.specs.Rows.{IsDecisionRow, IsHeuristicRow, IsLog, branch_of_row, content_of, gtrid_of_row, how_of_row, participants_of_rows}
use Rattle.xa_sql_log.specs.Sql.{IsOrderly, MayLeave, content_in}

pub durable_content : (s : State) → ((db : Trees) → IsTrue s.is_open → s.may_leave db → db ≡ s.committed.trees) → (c d : Content)
    → IsOrderly s → content_in s ≡ Some c → MayLeave s d → d ≡ c
durable_content s settled c d order is left = elim (cases_Bool s.is_open) [
  | inl is_open ↦ (
      let same : Some (content_of s.now.trees) ≡ Some c = sym (rw is_open refl) ∙ is in
      let one : content_of s.now.trees ≡ c = cc in
      left.2 ∙ ap content_of (settled left.0 is_open left.1) ∙ ap (λ (d : Database). content_of d.trees) (order is_open).committed ∙ one)
  | inr shut ↦ absurd (let none : None ≡ Some c = sym (rw shut refl) ∙ is in cc)
]

-- ** the participants of a transaction

equal_is : (o : Ordering) → is_eq o ≡ true → o ≡ Equal
equal_is Less h = absurd (cc)
equal_is Equal h = refl
equal_is Greater h = absurd (cc)

told : {A : Type 0} (x y : A) → Some x ≡ Some y → x ≡ y
told x y e = cc

-- what the rows of decisions are told to have of a transaction is what it has
found_as : (parts : Gtrid → KeySet branch_cmp) (rows : List Row) (g : Gtrid) (set : KeySet branch_cmp)
    → find gtrid_cmp g (map (λ row. (gtrid_of_row row, parts (gtrid_of_row row))) rows) ≡ Some set → parts g ≡ set
found_as parts [] g set e = absurd (let none : None ≡ Some set = e in cc)
found_as parts (r ∷ rows) g set e = elim (cases_Bool (gtrid_eq g (gtrid_of_row r))) [
  | inl same ↦ ap parts (exact_gtrids g (gtrid_of_row r) (equal_is _ same)) ∙ told _ set (rw same at e)
  | inr apart ↦ found_as parts rows g set (rw apart at e)
]

-- an item that a filter left passes its test
passes : (t p : Branch → Bool) (xs : List Branch) → list_any p (filter t xs) ≡ true → (x : Branch) × (t x ≡ true) × (p x ≡ true)
passes t p [] e = absurd (true≢false (sym e))
passes t p (x ∷ xs) e = elim (cases_Bool (t x)) [
  | inl kept ↦ elim (cases_Bool (p x)) [
    | inl is ↦ (x, kept, is)
    | inr fails ↦ passes t p xs (rw fails at (rw kept at e))
  ]
  | inr gone ↦ passes t p xs (rw gone at e)
]

part_is_own : (trees : Trees) (g : Gtrid) (set : KeySet branch_cmp) (b : Branch) → get (content_of trees).decisions g ≡ Some set
    → contains set b ≡ true → b.gtrid ≡ g
part_is_own trees g set b has inside =
    let parts = participants_of_rows (trees 5) in
    let same : parts g ≡ set = found_as parts (trees 1) g set (sym (get-from_entries gtrids_total _ g) ∙ has) in
    let one =
    passes (λ c. gtrid_eq g c.gtrid) (eq_by_cmp branch_cmp b) (map branch_of_row (trees 5))
    (sym (contains-from_list branches_total _ b) ∙ ap (λ s. contains s b) same ∙ inside) in
    ap (λ (c : Branch). c.gtrid) (exact_branches b one.0 (equal_is _ one.2)) ∙ sym (exact_gtrids g one.0.gtrid (equal_is _ one.1))

pub own_content : (s : State) (c : Content) → IsOrderly s → content_in s ≡ Some c → AreOwn c
own_content s c order is g set b has inside = elim (cases_Bool s.is_open) [
  | inl is_open ↦ (
      let same : Some (content_of s.now.trees) ≡ Some c = sym (rw is_open refl) ∙ is in
      let one : content_of s.now.trees ≡ c = cc in
      part_is_own s.now.trees g set b (ap (λ (d : Content). get d.decisions g) one ∙ has) inside)
  | inr shut ↦ absurd (let none : None ≡ Some c = sym (rw shut refl) ∙ is in cc)
]

-- ** the numbers of the rows

-- a transaction that has a row has one whose numbers are its own
decision_fits : (parts : Gtrid → KeySet branch_cmp) (rows : List Row) (g : Gtrid) → AllByRecursion IsDecisionRow rows
    → is_some (find gtrid_cmp g (map (λ row. (gtrid_of_row row, parts (gtrid_of_row row))) rows)) ≡ true → FitsRow g
decision_fits parts [] g all e = absurd (true≢false (sym e))
decision_fits parts (r ∷ rows) g all e = elim (cases_Bool (gtrid_eq g (gtrid_of_row r))) [
  | inl same ↦ subst FitsRow (sym (exact_gtrids g (gtrid_of_row r) (equal_is _ same) ∙ ap gtrid_of_row all.0.2)) all.0.3
  | inr apart ↦ decision_fits parts rows g all.1 (rw apart at e)
]

heuristic_fits : (rows : List Row) (b : Branch) → AllByRecursion IsHeuristicRow rows
    → is_some (find branch_cmp b (map (λ row. (branch_of_row row, how_of_row row)) rows)) ≡ true → FitsRow b.gtrid
heuristic_fits [] b all e = absurd (true≢false (sym e))
heuristic_fits (r ∷ rows) b all e = elim (cases_Bool (branch_eq b (branch_of_row r))) [
  | inl same ↦ subst (λ (x : Branch). FitsRow x.gtrid) (sym (exact_branches b (branch_of_row r) (equal_is _ same) ∙ ap branch_of_row all.0.3)) all.0.4
  | inr apart ↦ heuristic_fits rows b all.1 (rw apart at e)
]

rows_fit : (db : Database) → IsLog db → AllFit (content_of db.trees)
rows_fit db is = record {
  decisions = λ g h. decision_fits (participants_of_rows (db.trees 5)) (db.trees 1) g is.decisions (sym (ap is_some (get-from_entries gtrids_total _ g)) ∙ h);
  heuristics = λ b h. heuristic_fits (db.trees 3) b is.heuristics.all (sym (ap is_some (get-from_entries branches_total _ b)) ∙ h);
}

pub fits_content : (s : State) (c : Content) → IsOrderly s → content_in s ≡ Some c → AllFit c
fits_content s c order is = elim (cases_Bool s.is_open) [
  | inl is_open ↦ (
      let same : Some (content_of s.now.trees) ≡ Some c = sym (rw is_open refl) ∙ is in
      let one : content_of s.now.trees ≡ c = cc in
      subst AllFit one (rows_fit s.now (order is_open).now))
  | inr shut ↦ absurd (let none : None ≡ Some c = sym (rw shut refl) ∙ is in cc)
]
