-- Whether a decision has a row.
use Rattle.std.proofs.Common.{◌≡◌, pos, ◌==◌, List, [], ◌∷◌, length, map, filter, Bool, true, false, not, ◌||◌, cond, Some, None, IsTrue, IsSomeAnd, arith, refl, sym, ap, subst, ◌∙◌}
use Rattle.std.specs.List.{list_any}
use Rattle.std.specs.FinMap.{contains_key}
use Rattle.xa_log.specs.KeySet.{empty}
use Rattle.std.specs.Ordering.{eq_by_cmp}
use Rattle.std.proofs.lemmas.Bool.{true≢false, eqb-true}
use Rattle.std.proofs.lemmas.List.{length-map}
use Rattle.std.proofs.lemmas.List.Sorted.{length_permutation}
use Rattle.std.specs.List.Sorted.{IsPermutation}
use Rattle.sqlite.specs.declared.types.Value.TheVariants.{Int}
use Rattle.sqlite.specs.Order.{Row}
use Rattle.sqlite.specs.Effect.{Database}
use Rattle.sqlite.specs.Term.{Term, lit}
use Rattle.sqlite.specs.State.{State, Shown, IsUnchanged}
use Rattle.sqlite.proofs.Callers.{reads_as}
use Rattle.xa_base.specs.declared.branch.Gtrid.{Gtrid}
use Rattle.xa_base.specs.Branch.{gtrid_cmp}
use Rattle.xa_sql_log.specs.Tables.{log_schema}
use Rattle.xa_sql_log.proofs.Maps.{get_booked}
use Rattle.xa_sql_log.specs.Rows.{IsLog, gtrid_of_row, participants_of_rows, content_of}
use Rattle.xa_sql_log.specs.Sql.{IsOrderly, content_in}
use Rattle.xa_sql_log.proofs.Texts.{find_decision, find_decision_is, find_decision_plain, find_decision_unlisted}
use Rattle.xa_sql_log.proofs.Plain.{chosen, shown, plain_rows}
use Rattle.xa_sql_log.proofs.Contents.{gtrid_params, gtrid_tests, chosen_gtrid}
use Rattle.xa_sql_log.proofs.StatesAfter.{answered}

-- ---- is it there

none_kept : {X : Type 0} (p : X → Bool) (xs : List X) → length (filter p xs) ≡ 0 → list_any p xs ≡ false
none_kept p [] none = refl
none_kept p (x ∷ xs) none =
    elim (p x) as (λ b. length (cond b (x ∷ filter p xs) (filter p xs)) ≡ 0
    → (b || list_any p xs) ≡ false) [ true ↦ λ e. absurd (omega (arith, e)) | false ↦ none_kept p xs ] none

kept_none : {X : Type 0} (p : X → Bool) (xs : List X) → list_any p xs ≡ false → length (filter p xs) ≡ 0
kept_none p [] none = refl
kept_none p (x ∷ xs) none =
    elim (p x) as (λ b. (b || list_any p xs) ≡ false
    → length (cond b (x ∷ filter p xs) (filter p xs)) ≡ 0) [ true ↦ λ e. absurd (true≢false e) | false ↦ kept_none p xs ] none

not_empty : (empty found : Bool) → (IsTrue empty → found ≡ false) → (found ≡ false → IsTrue empty) → not empty ≡ found
not_empty true found p q = sym (p refl)
not_empty false true p q = refl
not_empty false false p q = absurd (true≢false (sym (q refl)))

pub some_of : {X : Type 0} (b : Bool) (x : X) → Rattle.std.proofs.Common.is_some (cond b (Some x) None) ≡ b
some_of true x = refl
some_of false x = refl

-- a statement over the rows of the transaction's decision finds some just where it has one
pub some_found : (g : Gtrid) (db : Database) (project : List Term) (rows : List Row) → IsLog db
    → IsPermutation (map (shown project (gtrid_params g)) (chosen gtrid_tests (gtrid_params g) (db.trees 1))) rows
    → not (length rows == 0) ≡ contains_key (content_of db.trees).decisions g
some_found g db project rows is moved =
    let p : Row → Bool = λ r. eq_by_cmp gtrid_cmp g (gtrid_of_row r) in
    let same : length rows ≡ length (filter p (db.trees 1)) =
    length_permutation _ _ moved ∙ length-map _ _ ∙ ap length (chosen_gtrid g (db.trees 1) is.decisions) in
    not_empty (length rows == 0) (list_any p (db.trees 1)) (λ h. none_kept p (db.trees 1) (sym same ∙ eqb-true (length rows) 0 h))
    (λ none. ap (λ n. n == 0) (same ∙ kept_none p (db.trees 1) none))
    ∙ sym (ap Rattle.std.proofs.Common.is_some (get_booked (participants_of_rows (db.trees 5)) (db.trees 1) g)
    ∙ some_of (list_any p (db.trees 1)) (participants_of_rows (db.trees 5) g))

pub finds : (old new : State) (g : Gtrid) (rows : List Row) → IsLog old.now → Shown find_decision (gtrid_params g) old new rows
    → not (length rows == 0) ≡ contains_key (content_of old.now.trees).decisions g
finds old new g rows is h =
    let read = reads_as find_decision (gtrid_params g) old new log_schema is.schema _ find_decision_is find_decision_plain find_decision_unlisted rows h in
    some_found g old.now (lit (Int (pos 1)) ∷ []) rows is
    (plain_rows 1 gtrid_tests (lit (Int (pos 1)) ∷ []) old.now.trees (gtrid_params g) rows read.answer)

-- the call that asks, from the log before it to the log after it
pub found : (g : Gtrid) (params : Row) → params ≡ gtrid_params g → (old mid new : State) (rows : List Row) (empty : Bool)
    → empty ≡ (length rows == 0) → IsOrderly old → IsUnchanged old mid → IsUnchanged mid new → Shown find_decision params mid new rows
    → IsSomeAnd (content_in old) (λ c. (content_in new ≡ Some c) × (not empty ≡ contains_key c.decisions g))
found g params given old mid new rows empty is order first second shown =
    answered old mid new order first second (λ c. not empty ≡ contains_key c.decisions g)
    (λ log. ap not is ∙ finds mid new g rows log (subst (λ p. Shown find_decision p mid new rows) given shown))
