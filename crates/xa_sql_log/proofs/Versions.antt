-- The look at the row of tm_meta, over the tables of either version.
use Rattle.std.proofs.Common.{◌≡◌, inl, inr, ℕ, zero, suc, ◌<◌, pos, List, [], ◌∷◌, map, length, get_or, refl, sym, ap, subst, ◌∙◌, codes, false, arith}
use Rattle.std.specs.List.{Contains}
use Rattle.std.specs.List.Sorted.{IsPermutation}
use Rattle.std.proofs.lemmas.List.Elements.{Contains-append_right}
use Rattle.std.proofs.lemmas.List.Sorted.{Contains-permutation, IsPermutation-sym}
use Rattle.sqlite.specs.declared.types.Value.TheVariants.{Int}
use Rattle.sqlite.specs.Order.{Row, column}
use Rattle.sqlite.specs.Tree.{Trees}
use Rattle.sqlite.specs.Schema.{Schema}
use Rattle.sqlite.specs.Term.{Term, col}
use Rattle.sqlite.specs.Command.TheVariants.{Select}
use Rattle.sqlite.specs.Clock.{timed}
use Rattle.sqlite.specs.Listing.{understood, reads_listing}
use Rattle.sqlite.specs.State.{State, IsUnchanged, Survives, CommitsShowing, Shown, ShowsRows}
use Rattle.sqlite.proofs.Callers.{IsPlain, command_of, never_commits, reads_as, one_permutation}
use Rattle.sqlite_tied.specs.Compute.{everything}
use Rattle.xa_sql_log.specs.Tables.{old_schema, log_schema}
use Rattle.xa_sql_log.specs.OpenedDatabase.{HasTables, HasMetaRow, IsNatural, NamesVersion}
use Rattle.xa_sql_log.proofs.Texts.{over}
use Rattle.xa_sql_log.proofs.Plain.{chosen, shown, plain_rows}

abbrev pub read_meta : List ℕ
read_meta = codes "SELECT version, incarnation FROM tm_meta"

abbrev project : List Term
project = col 1 2 ∷ col 1 3 ∷ []

-- what the text means over the tables of a log
record Reads (schema : Schema) : Type 0 where
  is : command_of (understood schema read_meta) ≡ Select (record { lets = []; body = over 0 [] project }) (codes "version" ∷ codes "incarnation" ∷ [])
  plain : IsPlain (understood schema read_meta)
  unlisted : reads_listing schema read_meta ≡ false

reads_old : Reads old_schema
unfolding understood everything
reads_old = record { is = refl; plain = (refl, refl); unlisted = refl }

reads_log : Reads log_schema
unfolding understood everything
reads_log = record { is = refl; plain = (refl, refl); unlisted = refl }

reads : (s : State) → HasTables s → Reads s.now.schema
reads s (inl old) = subst Reads (sym old) reads_old
reads s (inr new) = subst Reads (sym new) reads_log

pub looks : (old new : State) (rows : List Row) → HasTables old → Shown read_meta [] old new rows → IsUnchanged old new
unfolding Shown
looks old new rows has h =
    let none = (subst IsPlain h.1.is (reads old has).plain).0 in
    (subst (ShowsRows old new read_meta h.0 (timed [] h.0.formats h.1.now) rows) none h.2).3

pub look_commits : (old : State) (db : Trees) → HasTables old → CommitsShowing read_meta [] old db → ⊥
look_commits old db has h = never_commits read_meta [] old db (reads old has).plain h

answers : (old new : State) (rows : List Row) → HasTables old → Shown read_meta [] old new rows
    → IsPermutation (map (shown project []) (chosen [] [] (old.now.trees 0))) rows
answers old new rows has h =
    let it = reads old has in
    plain_rows 0 [] project old.now.trees [] rows (reads_as read_meta [] old new old.now.schema refl _ it.is it.plain it.unlisted rows h).answer

pub looks_at : (version incarnation : ℕ) (old new : State) (rows : List Row) → HasMetaRow version incarnation old
    → Shown read_meta [] old new rows → rows ≡ (Int (pos version) ∷ Int (pos incarnation) ∷ []) ∷ []
looks_at version incarnation old new rows is h =
    one_permutation (Int (pos version) ∷ Int (pos incarnation) ∷ []) rows
    (subst (λ all. IsPermutation (map (shown project []) (chosen [] [] all)) rows) is.1 (answers old new rows is.0 h))

-- what stands at a place of the answer was shown of a row of the table
shown_of : (all : List Row) (row : Row) (k : ℕ) → k < length (map (shown project []) (chosen [] [] all))
    → get_or (map (shown project []) (chosen [] [] all)) k row ≡ row → (from : Row) × Contains all from × (shown project [] from ≡ row)
shown_of [] row k within is = absurd (omega (arith, within))
shown_of (first ∷ all) row zero within is = (first, (0, omega arith, refl), is)
shown_of (first ∷ all) row (suc k) within is =
    let found = shown_of all row k (omega (arith, within)) is in
    (found.0, Contains-append_right (first ∷ []) all found.0 found.1, found.2)

one_number : (v i n k : ℕ) (row : Row) → k < 1 → get_or ((Int (pos v) ∷ Int (pos i) ∷ []) ∷ []) k row ≡ row → column row 0 ≡ Int (pos n) → n ≡ v
one_number v i n zero row within is number =
    let value : Int (pos v) ≡ Int (pos n) = ap (λ r. column r 0) is ∙ number in
    cc
one_number v i n (suc k) row within is number = absurd (omega (arith, within))

-- a number at the head of an answer of one row is that row's
pub number_of_one : (v i n : ℕ) (rows : List Row) (row : Row) → rows ≡ (Int (pos v) ∷ Int (pos i) ∷ []) ∷ [] → Contains rows row
    → column row 0 ≡ Int (pos n) → n ≡ v
number_of_one v i n rows row is has number =
    let at = subst (λ all. Contains all row) is has in
    one_number v i n at.0 row at.1 at.2 number

pub names : (version : ℕ) (old new : State) (rows : List Row) (row : Row) → HasTables old → Shown read_meta [] old new rows
    → Contains rows row → column row 0 ≡ Int (pos version) → IsNatural (column row 1) → NamesVersion version old
names version old new rows row has h in_rows first second =
    let moved =
    Contains-permutation rows (map (shown project []) (chosen [] [] (old.now.trees 0))) row (IsPermutation-sym _ _ (answers old new rows has h)) in_rows in
    let from = shown_of (old.now.trees 0) row moved.0 moved.1 moved.2 in
    (from.0, from.1, ap (λ r. column r 0) from.2 ∙ first, (second.0, ap (λ r. column r 1) from.2 ∙ second.1))

pub look_survives : (old new : State) → HasTables old → Survives old new (CommitsShowing read_meta [] old) → Survives old new (λ _. ⊥)
look_survives old new has s = record {
  clean = s.clean;
  shield = s.shield;
  counts = s.counts;
  limit = s.limit;
  closes = s.closes;
  crash = λ clean db left. elim (s.crash clean db left) [ inl was ↦ inl was | inr commits ↦ absurd (look_commits old db has commits) ];
}
