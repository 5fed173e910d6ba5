-- A DELETE of decisions takes their participants with it, and nothing else.
use Rattle.std.proofs.Common.{◌≡◌, inl, inr, ℕ, zero, suc, ℤ, List, [], ◌∷◌, ◌++◌, length, length-append, Bool, true, false, cond, Some, None, Ok, arith, refl, sym, ap, subst, subst₂, ◌∙◌}
use Rattle.std.specs.List.{list_any, filter_map}
use Rattle.std.proofs.lemmas.Bool.{eqb-false, cases_Bool}
use Rattle.sqlite.specs.declared.types.Value.TheVariants.{Int}
use Rattle.sqlite.specs.Order.{Row}
use Rattle.sqlite.specs.Tree.{Trees, rowid}
use Rattle.sqlite.specs.Edit.{edit_of, without_all, taken_by}
use Rattle.sqlite.specs.Rowids.TheVariants.{Given}
use Rattle.sqlite_rules.specs.Edit.{Applies}
use Rattle.sqlite_rules.specs.Lists.{Has}
use Rattle.sqlite_rules.specs.Action.{Work, AreChildren, Acts, ActsOn, Leads, Writes, works, pairs, loses, is_child_of, action_edit}
use Rattle.sqlite_rules.specs.declared.action.Deed.TheVariants.{Delete}
use Rattle.sqlite_schema.specs.declared.schema.Keys.TheVariants.{Enforced}
use Rattle.sqlite_schema.specs.declared.schema.Reference.{Reference}
use Rattle.sqlite_tied.specs.Compute.{everything}
use Rattle.xa_sql_log.specs.Tables.{log_schema, decision, participant, of_decision}

-- the one action that a DELETE of these decisions sets off
abbrev pub cascade : List Row → Work
cascade olds =
    record { depth = 0; child = participant; ref = of_decision; places = 1 ∷ 2 ∷ []; order = record { digits = 0 }; deed = Delete; moves = pairs olds [] }

abbrev acts_on : List Row → Bool
acts_on olds = list_any (loses (record { digits = 0 }) (1 ∷ 2 ∷ [])) (pairs olds [])

one_work : (olds : List Row) → works log_schema Enforced 0 1 olds [] ≡ cond (acts_on olds) (cascade olds ∷ []) []
unfolding everything
one_work olds =
    elim (acts_on olds) as (λ b. filter_map (λ (ref : Reference). cond b (Some (cascade olds)) None) (of_decision ∷ [])
    ++ [] ≡ cond b (cascade olds ∷ []) []) [ true ↦ refl | false ↦ refl ]

no_work : (depth : ℕ) (olds : List Row) → works log_schema Enforced depth 5 olds [] ≡ []
unfolding everything
no_work depth olds = refl

-- nothing is left to do
at_rest : (n : ℕ) (db after : Trees) → Leads log_schema Enforced n db [] (Ok after) → db ≡ after
at_rest zero db after h = let e = h.1 in cc
at_rest (suc n) db after h = absurd (omega (arith, ap length h.2, length-append h.0 (h.1 ∷ [])))

-- the rows that the action takes: children of the rows that are gone
pub record Follows (olds : List Row) (db after : Trees) : Type 0 where
  pub ids : List ℤ
  pub sound : (id : ℤ) → Has ids id → (r : Row) × Has (db 5) r × (list_any (is_child_of (cascade olds) r) (pairs olds []) ≡ true) × (rowid r ≡ Int id)
  pub participants : after 5 ≡ without_all (db 5) ids
  pub meta : after 0 ≡ db 0
  pub decisions : after 1 ≡ db 1
  pub heuristics : after 3 ≡ db 3

follows_none : (olds : List Row) (db after : Trees) → db ≡ after → Follows olds db after
follows_none olds db after same = record {
  ids = [];
  sound = λ id none. absurd none;
  participants = ap (λ (t : Trees). t 5) (sym same);
  meta = ap (λ (t : Trees). t 0) (sym same);
  decisions = ap (λ (t : Trees). t 1) (sym same);
  heuristics = ap (λ (t : Trees). t 3) (sym same);
}

acted : (n : ℕ) (olds : List Row) (db after : Trees) (ids : List ℤ) → AreChildren db (cascade olds) ids
    → ActsOn log_schema Enforced (Leads log_schema Enforced n) db (cascade olds) [] (Ok after) ids → Follows olds db after
acted n olds db after [] children h = follows_none olds db after (at_rest n db after h)
acted n olds db after (id ∷ ids) children (inl refused) = absurd (let e = refused.2 in cc)
acted n olds db after (id ∷ ids) children (inr (inl big)) = absurd (let e = big.3 in cc)
acted n olds db after (id ∷ ids) children (inr (inr went)) =
    let applied : Applies log_schema Enforced db (action_edit db (cascade olds) (id ∷ ids)) went.0 = went.1 in
    let edit = action_edit db (cascade olds) (id ∷ ids) in
    let same = at_rest n went.0 after (subst (λ stack. Leads log_schema Enforced n went.0 stack (Ok after)) (no_work 1 (taken_by db edit)) went.2) in
    let as_after = λ (at : ℕ). ap (λ (t : Trees). t at) (sym same) in
    record {
      ids = id ∷ ids;
      sound = children.sound;
      participants = as_after 5 ∙ applied.rows;
      meta = as_after 0 ∙ applied.tables.0 (eqb-false 0 5 refl);
      decisions = as_after 1 ∙ applied.tables.1.0 (eqb-false 1 5 refl);
      heuristics = as_after 3 ∙ applied.tables.1.1.0 (eqb-false 3 5 refl);
    }

split_one : {X : Type 0} (below : List X) (x y : X) → x ∷ [] ≡ below ++ y ∷ [] → (below ≡ []) × (x ≡ y)
split_one [] x y e = (refl, cc)
split_one (b ∷ below) x y e = absurd (omega (arith, ap length e, length-append below (y ∷ [])))

led : (n : ℕ) (olds : List Row) (db after : Trees) → Leads log_schema Enforced n db (cascade olds ∷ []) (Ok after) → Follows olds db after
led zero olds db after h = absurd (let e = h.0 in cc)
led (suc n) olds db after h =
    let one = split_one h.0 (cascade olds) h.1 h.2 in
    let acts : Acts log_schema Enforced (Leads log_schema Enforced n) db (cascade olds) [] (Ok after) =
    subst₂ (λ below w. Acts log_schema Enforced (Leads log_schema Enforced n) db w below (Ok after)) one.0 (sym one.1) h.3 in
    acted n olds db after acts.0 acts.1 acts.2

-- the decisions go, and then their participants
pub cascaded : (db after : Trees) (gone : List ℤ) → Writes log_schema Enforced db (edit_of db decision gone Given 0 []) (Ok after)
    → (next : Trees) × Applies log_schema Enforced db (edit_of db decision gone Given 0 []) next
    × Follows (taken_by db (edit_of db decision gone Given 0 [])) next after
cascaded db after gone (inl refused) = absurd (let e = refused.2 in cc)
cascaded db after gone (inr (inl big)) = absurd (let e = big.3 in cc)
cascaded db after gone (inr (inr went)) =
    let olds = taken_by db (edit_of db decision gone Given 0 []) in
    let leads : Leads log_schema Enforced went.2.0 went.0 (cond (acts_on olds) (cascade olds ∷ []) []) (Ok after) =
    subst (λ stack. Leads log_schema Enforced went.2.0 went.0 stack (Ok after)) (one_work olds) went.2.1 in (
      went.0,
      went.1,
      elim (cases_Bool (acts_on olds)) [
        | inl acts ↦ led went.2.0 olds went.0 after (rw acts at leads)
        | inr none ↦ follows_none olds went.0 after (at_rest went.2.0 went.0 after (rw none at leads))
      ],
    )
