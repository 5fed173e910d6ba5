-- What an INSERT of one row does, or of two.
use Rattle.std.proofs.Common.{◌≡◌, ℕ, ℤ, List, [], ◌∷◌, Bool, true, false, not, ◌&&◌, None, Option, Ok, refl, sym, ap, subst, ◌∙◌}
use Rattle.std.proofs.lemmas.Bool.{eqb-false, true≢false}
use Rattle.sqlite.specs.declared.types.Value.TheVariants.{Null, Int}
use Rattle.sqlite.specs.Order.{Row}
use Rattle.sqlite.specs.Tree.{Trees, put_row}
use Rattle.sqlite.specs.Term.{lit, col}
use Rattle.sqlite.specs.Source.TheVariants.{Values}
use Rattle.sqlite.specs.Command.TheVariants.{Insert}
use Rattle.sqlite.specs.Edit.{edit_of, is_taken, are_fresh, put_all, next_rowid}
use Rattle.sqlite.specs.Rowids.TheVariants.{Chosen}
use Rattle.sqlite.specs.Effect.{Database}
use Rattle.sqlite.specs.Rows.{Written}
use Rattle.sqlite.specs.Does.{Tally, Does}
use Rattle.sqlite.specs.declared.run.Mode.{Mode}
use Rattle.sqlite_schema.specs.Rules.{Refers}
use Rattle.sqlite_schema.specs.declared.schema.Among.TheVariants.{All}
use Rattle.sqlite_schema.specs.declared.schema.Keys.TheVariants.{Enforced}
use Rattle.sqlite_rules.specs.Action.{works}
use Rattle.sqlite.proofs.Callers.{one_step}
use Rattle.xa_sql_log.specs.Tables.{log_schema, decision, heuristic, participant}
use Rattle.xa_log.proofs.Parts.{went, same_value}
use Rattle.xa_sql_log.proofs.Values.{cast_int, cast_null}

-- as a statement runs where no key waits for the commit
abbrev pub at_once : Mode
at_once = record { keys = Enforced; in_doubt = false; may_wait = false }

-- one row went in where its rowid was free, and each foreign key holds
pub record Puts (tree : ℕ) (row : Row) (db after : Database) : Type 0 where
  pub schema : after.schema ≡ log_schema
  pub fresh : is_taken (db.trees tree) row ≡ false
  pub rows : after.trees tree ≡ put_row row (db.trees tree)
  pub refers : Refers All log_schema after.trees

not_any : (b : Bool) → (not b && true) ≡ true → b ≡ false
not_any true h = cc
not_any false h = refl

pub puts_decision : (limit : Option ℕ) (a b : ℤ) (db after : Database) (text : List ℕ) (tally : Tally) → db.schema ≡ log_schema
    → Does limit at_once (Int a ∷ Int b ∷ []) db text None (Insert 1 (Values (lit Null ∷ col 0 0 ∷ col 0 1 ∷ []) 3)) (Ok (tally, after))
    → Puts 1 (Int (next_rowid (db.trees 1)) ∷ Int a ∷ Int b ∷ []) db after × (after.trees 0 ≡ db.trees 0)
    × (after.trees 3 ≡ db.trees 3) × (after.trees 5 ≡ db.trees 5)
puts_decision limit a b db after text tally has h =
    let params : Row = Int a ∷ Int b ∷ [] in
    let command = Insert 1 (Values (lit Null ∷ col 0 0 ∷ col 0 1 ∷ []) 3) in
    let done = went (subst (λ s. Does limit at_once params (record db { schema = s }) text None command (Ok (tally, after))) has h) in
    let tested = went done.2 in
    let now = ap (λ (p : Tally × Database). p.1) (same_value (went tested.2).2) in
    let given = went done.1 in
    let written = went (went given.2).2 in
    let counted = went written.2 in
    let trees : done.0.trees ≡ written.0 = ap (λ (it : Written). it.trees) (same_value counted.2) ∙ same_value counted.1 in
    let edit = edit_of db.trees decision [] Chosen 0 given.0 in
    let row : Row = Int (next_rowid (db.trees 1)) ∷ Int a ∷ Int b ∷ [] in
    let news : edit.news ≡ row ∷ [] = ap (λ all. (edit_of db.trees decision [] Chosen 0 all).news) given.1.1 ∙ rw (cast_null, cast_int a, cast_int b) refl in
    let none : works log_schema Enforced 0 1 [] edit.news ≡ [] = ap (works log_schema Enforced 0 1 []) news in
    let applied = one_step log_schema Enforced db.trees written.0 edit none written.1 in
    let fresh = subst (λ all. are_fresh (db.trees 1) all ≡ true) news applied.fresh in
    let all = ap (λ (d : Database). d.trees) now in
    let as_after = λ (at : ℕ). ap (λ (t : Trees). t at) (all ∙ trees) in (
      record {
        schema = ap (λ (d : Database). d.schema) now;
        fresh = not_any _ fresh;
        rows = as_after 1 ∙ applied.rows ∙ ap (put_all (db.trees 1)) news;
        refers = subst (Refers All log_schema) (sym all) tested.1.0;
      },
      as_after 0 ∙ applied.tables.0 (eqb-false 0 1 refl),
      as_after 3 ∙ applied.tables.1.1.0 (eqb-false 3 1 refl),
      as_after 5 ∙ applied.tables.1.1.1.0 (eqb-false 5 1 refl),
    )

pub puts_participant : (limit : Option ℕ) (a b c d : ℤ) (db after : Database) (text : List ℕ) (tally : Tally) → db.schema ≡ log_schema
    → Does limit at_once (Int a ∷ Int b ∷ Int c ∷ Int d ∷ []) db text None
    (Insert 3 (Values (lit Null ∷ col 0 0 ∷ col 0 1 ∷ col 0 2 ∷ col 0 3 ∷ []) 5)) (Ok (tally, after))
    → Puts 5 (Int (next_rowid (db.trees 5)) ∷ Int a ∷ Int b ∷ Int c ∷ Int d ∷ []) db after × (after.trees 0 ≡ db.trees 0)
    × (after.trees 1 ≡ db.trees 1) × (after.trees 3 ≡ db.trees 3)
puts_participant limit a b c d db after text tally has h =
    let params : Row = Int a ∷ Int b ∷ Int c ∷ Int d ∷ [] in
    let command = Insert 3 (Values (lit Null ∷ col 0 0 ∷ col 0 1 ∷ col 0 2 ∷ col 0 3 ∷ []) 5) in
    let done = went (subst (λ s. Does limit at_once params (record db { schema = s }) text None command (Ok (tally, after))) has h) in
    let tested = went done.2 in
    let now = ap (λ (p : Tally × Database). p.1) (same_value (went tested.2).2) in
    let given = went done.1 in
    let written = went (went given.2).2 in
    let counted = went written.2 in
    let trees : done.0.trees ≡ written.0 = ap (λ (it : Written). it.trees) (same_value counted.2) ∙ same_value counted.1 in
    let edit = edit_of db.trees participant [] Chosen 0 given.0 in
    let row : Row = Int (next_rowid (db.trees 5)) ∷ Int a ∷ Int b ∷ Int c ∷ Int d ∷ [] in
    let news : edit.news ≡ row ∷ [] =
    ap (λ all. (edit_of db.trees participant [] Chosen 0 all).news) given.1.1 ∙ rw (cast_null, cast_int a, cast_int b, cast_int c, cast_int d) refl in
    let none : works log_schema Enforced 0 5 [] edit.news ≡ [] = ap (works log_schema Enforced 0 5 []) news in
    let applied = one_step log_schema Enforced db.trees written.0 edit none written.1 in
    let fresh = subst (λ all. are_fresh (db.trees 5) all ≡ true) news applied.fresh in
    let all = ap (λ (d : Database). d.trees) now in
    let as_after = λ (at : ℕ). ap (λ (t : Trees). t at) (all ∙ trees) in (
      record {
        schema = ap (λ (d : Database). d.schema) now;
        fresh = not_any _ fresh;
        rows = as_after 5 ∙ applied.rows ∙ ap (put_all (db.trees 5)) news;
        refers = subst (Refers All log_schema) (sym all) tested.1.0;
      },
      as_after 0 ∙ applied.tables.0 (eqb-false 0 5 refl),
      as_after 1 ∙ applied.tables.1.0 (eqb-false 1 5 refl),
      as_after 3 ∙ applied.tables.1.1.0 (eqb-false 3 5 refl),
    )

-- two rows went in, each where its rowid was free, and each foreign key holds
pub record PutsTwo (tree : ℕ) (row last : Row) (db after : Database) : Type 0 where
  pub schema : after.schema ≡ log_schema
  pub fresh : is_taken (db.trees tree) row ≡ false
  pub fresh_last : is_taken (put_row row (db.trees tree)) last ≡ false
  pub rows : after.trees tree ≡ put_row last (put_row row (db.trees tree))
  pub refers : Refers All log_schema after.trees

neither : (a b : Bool) → (not a && (not b && true)) ≡ true → (a ≡ false) × (b ≡ false)
neither true b h = absurd (true≢false (sym h))
neither false true h = absurd (true≢false (sym h))
neither false false h = (refl, refl)

module _ (limit : Option ℕ) (a b c d e f g h : ℤ) (db after : Database) (text : List ℕ) (tally : Tally) where
  abbrev pub one_row : Row
  one_row = Int (next_rowid (db.trees 5)) ∷ Int a ∷ Int b ∷ Int c ∷ Int d ∷ []

  abbrev pub other_row : Row
  other_row = Int (next_rowid (put_row one_row (db.trees 5))) ∷ Int e ∷ Int f ∷ Int g ∷ Int h ∷ []

  pub puts_two : db.schema ≡ log_schema
      → Does limit at_once (Int a ∷ Int b ∷ Int c ∷ Int d ∷ Int e ∷ Int f ∷ Int g ∷ Int h ∷ []) db text None
      (Insert 3 (Values (lit Null ∷ col 0 0 ∷ col 0 1 ∷ col 0 2 ∷ col 0 3 ∷ lit Null ∷ col 0 4 ∷ col 0 5 ∷ col 0 6 ∷ col 0 7 ∷ []) 5)) (Ok (tally, after))
      → PutsTwo 5 one_row other_row db after × (after.trees 0 ≡ db.trees 0) × (after.trees 1 ≡ db.trees 1) × (after.trees 3 ≡ db.trees 3)
  puts_two has does =
      let params : Row = Int a ∷ Int b ∷ Int c ∷ Int d ∷ Int e ∷ Int f ∷ Int g ∷ Int h ∷ [] in
      let command =
      Insert 3 (Values (lit Null ∷ col 0 0 ∷ col 0 1 ∷ col 0 2 ∷ col 0 3 ∷ lit Null ∷ col 0 4 ∷ col 0 5 ∷ col 0 6 ∷ col 0 7 ∷ []) 5) in
      let done = went (subst (λ s. Does limit at_once params (record db { schema = s }) text None command (Ok (tally, after))) has does) in
      let tested = went done.2 in
      let now = ap (λ (p : Tally × Database). p.1) (same_value (went tested.2).2) in
      let given = went done.1 in
      let written = went (went given.2).2 in
      let counted = went written.2 in
      let trees : done.0.trees ≡ written.0 = ap (λ (it : Written). it.trees) (same_value counted.2) ∙ same_value counted.1 in
      let edit = edit_of db.trees participant [] Chosen 0 given.0 in
      let news : edit.news ≡ one_row ∷ other_row ∷ [] =
      ap (λ all. (edit_of db.trees participant [] Chosen 0 all).news) given.1.1
      ∙ rw (cast_null, cast_int a, cast_int b, cast_int c, cast_int d, cast_int e, cast_int f, cast_int g, cast_int h) refl in
      let none : works log_schema Enforced 0 5 [] edit.news ≡ [] = ap (works log_schema Enforced 0 5 []) news in
      let applied = one_step log_schema Enforced db.trees written.0 edit none written.1 in
      let fresh = neither _ _ (subst (λ all. are_fresh (db.trees 5) all ≡ true) news applied.fresh) in
      let all = ap (λ (d : Database). d.trees) now in
      let as_after = λ (at : ℕ). ap (λ (t : Trees). t at) (all ∙ trees) in (
        record {
          schema = ap (λ (d : Database). d.schema) now;
          fresh = fresh.0;
          fresh_last = fresh.1;
          rows = as_after 5 ∙ applied.rows ∙ ap (put_all (db.trees 5)) news;
          refers = subst (Refers All log_schema) (sym all) tested.1.0;
        },
        as_after 0 ∙ applied.tables.0 (eqb-false 0 5 refl),
        as_after 1 ∙ applied.tables.1.0 (eqb-false 1 5 refl),
        as_after 3 ∙ applied.tables.1.1.0 (eqb-false 3 5 refl),
      )

pub puts_heuristic : (limit : Option ℕ) (a b c d e : ℤ) (db after : Database) (text : List ℕ) (tally : Tally) → db.schema ≡ log_schema
    → Does limit at_once (Int a ∷ Int b ∷ Int c ∷ Int d ∷ Int e ∷ []) db text None
    (Insert 2 (Values (lit Null ∷ col 0 0 ∷ col 0 1 ∷ col 0 2 ∷ col 0 3 ∷ col 0 4 ∷ []) 6)) (Ok (tally, after))
    → Puts 3 (Int (next_rowid (db.trees 3)) ∷ Int a ∷ Int b ∷ Int c ∷ Int d ∷ Int e ∷ []) db after × (after.trees 0 ≡ db.trees 0)
    × (after.trees 1 ≡ db.trees 1) × (after.trees 5 ≡ db.trees 5)
puts_heuristic limit a b c d e db after text tally has h =
    let params : Row = Int a ∷ Int b ∷ Int c ∷ Int d ∷ Int e ∷ [] in
    let command = Insert 2 (Values (lit Null ∷ col 0 0 ∷ col 0 1 ∷ col 0 2 ∷ col 0 3 ∷ col 0 4 ∷ []) 6) in
    let done = went (subst (λ s. Does limit at_once params (record db { schema = s }) text None command (Ok (tally, after))) has h) in
    let tested = went done.2 in
    let now = ap (λ (p : Tally × Database). p.1) (same_value (went tested.2).2) in
    let given = went done.1 in
    let written = went (went given.2).2 in
    let counted = went written.2 in
    let trees : done.0.trees ≡ written.0 = ap (λ (it : Written). it.trees) (same_value counted.2) ∙ same_value counted.1 in
    let edit = edit_of db.trees heuristic [] Chosen 0 given.0 in
    let row : Row = Int (next_rowid (db.trees 3)) ∷ Int a ∷ Int b ∷ Int c ∷ Int d ∷ Int e ∷ [] in
    let news : edit.news ≡ row ∷ [] =
    ap (λ all. (edit_of db.trees heuristic [] Chosen 0 all).news) given.1.1
    ∙ rw (cast_null, cast_int a, cast_int b, cast_int c, cast_int d, cast_int e) refl in
    let none : works log_schema Enforced 0 3 [] edit.news ≡ [] = ap (works log_schema Enforced 0 3 []) news in
    let applied = one_step log_schema Enforced db.trees written.0 edit none written.1 in
    let fresh = subst (λ all. are_fresh (db.trees 3) all ≡ true) news applied.fresh in
    let all = ap (λ (d : Database). d.trees) now in
    let as_after = λ (at : ℕ). ap (λ (t : Trees). t at) (all ∙ trees) in (
      record {
        schema = ap (λ (d : Database). d.schema) now;
        fresh = not_any _ fresh;
        rows = as_after 3 ∙ applied.rows ∙ ap (put_all (db.trees 3)) news;
        refers = subst (Refers All log_schema) (sym all) tested.1.0;
      },
      as_after 0 ∙ applied.tables.0 (eqb-false 0 3 refl),
      as_after 1 ∙ applied.tables.1.0 (eqb-false 1 3 refl),
      as_after 5 ∙ applied.tables.1.1.1.0 (eqb-false 5 3 refl),
    )
