-- A query over one table answers, in some order, what it shows of the rows that pass WHERE.
use Rattle.std.proofs.Common.{◌≡◌, ℕ, List, [], ◌∷◌, ◌++◌, map, filter, flat_map, Bool, true, false, cond, Option, None, slice_get, nat_le, ◌-◌, ◌^◌, refl, sym, ap, subst, ◌∙◌}
use Rattle.std.specs.List.{list_all}
use Rattle.std.specs.List.Sorted.{IsPermutation}
use Rattle.std.proofs.lemmas.List.Sorted.{IsPermutation-map}
use Rattle.sqlite.specs.declared.types.Value.TheVariants.{Null}
use Rattle.sqlite.specs.Order.{Row}
use Rattle.sqlite.specs.Tree.{Trees}
use Rattle.sqlite.specs.Term.{Term, eval_all, holds}
use Rattle.sqlite.specs.Query.{IsAnswerAs, Output, output}
use Rattle.sqlite.specs.Program.{overlay, IsProgramAnswer}
use Rattle.sqlite_trees.proofs.ListLemmas.{map-map}
use Rattle.xa_sql_log.proofs.Texts.{over}

no_table : (b : Bool) (o : Option (List Row)) → o ≡ None → cond b o None ≡ None
no_table true o none = none
no_table false o none = refl

matched : {X : Type 0} (p : Row → Bool) (f : Row → X) (rows : List Row) → flat_map (λ r. cond (p r) (f r ∷ []) []) rows ≡ map f (filter p rows)
matched p f [] = refl
matched p f (r ∷ rows) =
    elim (p r) as (λ b. cond b (f r ∷ []) [] ++ flat_map (λ r. cond (p r) (f r ∷ []) []) rows ≡ map f (cond b (r ∷ filter p rows) (filter p rows))) [
      | true ↦ ap (λ xs. f r ∷ xs) (matched p f rows)
      | false ↦ matched p f rows
    ]

-- the rows of the table that pass WHERE
abbrev pub chosen : List Term → Row → List Row → List Row
chosen tests params = filter (λ r. list_all (holds (params ∷ r ∷ [])) tests)

abbrev pub shown : List Term → Row → Row → Row
shown project params r = eval_all project (params ∷ r ∷ [])

pub plain_rows : (tree : ℕ) (tests project : List Term) (db : Trees) (params : Row) (rows : List Row)
    → IsProgramAnswer [] (over tree tests project) db params rows
    → IsPermutation (map (shown project params) (chosen tests params (db tree))) rows
plain_rows tree tests project db params rows h =
    let a : IsAnswerAs Null (over tree tests project) (overlay db []) params rows = h Null in
    let table : overlay db [] tree ≡ db tree =
    ap (λ o. Rattle.std.proofs.Common.unwrap_or o (db tree)) (no_table (nat_le (2 ^ 31) tree) (slice_get [] (tree - 2 ^ 31)) refl) in
    let staged : a.staged ≡ map (λ r. params ∷ r ∷ []) (chosen tests params (db tree)) =
    a.grouped ∙ matched (λ r. list_all (holds (params ∷ r ∷ [])) tests) (λ r. params ∷ r ∷ []) (overlay db [] tree)
    ∙ ap (λ t. map (λ r. params ∷ r ∷ []) (chosen tests params t)) table in
    let kept : a.kept ≡ map (λ r. output (over tree tests project) (params ∷ r ∷ [])) (chosen tests params (db tree)) =
    a.distinct ∙ ap (map (output (over tree tests project))) staged ∙ map-map _ _ _ in
    let moved = IsPermutation-map (λ (o : Output). o.1) _ _ a.same in
    let from : map (λ (o : Output). o.1) a.kept ≡ map (shown project params) (chosen tests params (db tree)) =
    ap (map (λ (o : Output). o.1)) kept ∙ map-map _ _ _ in
    subst (λ xs. IsPermutation (map (shown project params) (chosen tests params (db tree))) xs) (sym a.shown)
    (subst (λ xs. IsPermutation xs (map (λ (o : Output). o.1) a.ordered)) from moved)
