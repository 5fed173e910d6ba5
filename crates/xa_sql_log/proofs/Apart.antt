-- No two rows are decisions of one transaction, so one that went in was not there.
use Rattle.std.proofs.Common.{◌≡◌, inl, inr, ℕ, ℤ, pos, List, Bool, true, false, ◌&&◌, cond, Some, None, Ok, refl, sym, ap, subst, ◌∙◌, is_eq, int_cmp, Ordering, Less, Equal, Greater}
use Rattle.std.specs.FinMap.{get, int_cmp-IsAntisymmetric}
use Rattle.std.specs.List.{list_any}
use Rattle.std.specs.Ordering.{is_ne}
use Rattle.std.proofs.lemmas.Bool.{cases_Bool, true≢false, and_parts}
use Rattle.xa_base.specs.declared.branch.Gtrid.{Gtrid}
use Rattle.xa_base.specs.Branch.{gtrid_eq}
use Rattle.sqlite.specs.declared.types.Value.TheVariants.{Int}
use Rattle.sqlite.specs.Order.{Row}
use Rattle.sqlite.specs.Tree.{Trees, put_row, rowid}
use Rattle.sqlite.specs.Edit.{is_taken}
use Rattle.sqlite.specs.Effect.{Database}
use Rattle.sqlite.specs.Listing.{understood}
use Rattle.sqlite.specs.State.{State, Executes, ExecutesInside}
use Rattle.sqlite.proofs.Callers.{runs_as, statement_of}
use Rattle.sqlite.specs.Ops.{binary}
use Rattle.sqlite_value.specs.Order.{value_cmp}
use Rattle.sqlite_value.proofs.OrderLemmas.{value_cmp-Int}
use Rattle.sqlite_schema.specs.Rules.{Keeps, agree, clashes, differ}
use Rattle.sqlite_schema.specs.declared.schema.Constraint.TheVariants.{Unique}
use Rattle.sqlite_rules.specs.Lists.{Has}
use Rattle.sqlite_rules.proofs.ListLemmas.{all_has, some_has, some_from}
use Rattle.sqlite_tied.specs.Compute.{everything}
use Rattle.xa_sql_log.specs.Tables.{log_schema}
use Rattle.xa_sql_log.specs.Rows.{IsLog, IsDecisionRow, gtrid_of_row, participants_of_rows, content_of}
use Rattle.xa_log.specs.Contract.{FitsRow}
use Rattle.xa_sql_log.proofs.Contents.{any_put, gtrid_params, not_true, put_keeps}
use Rattle.xa_sql_log.proofs.DecisionRows.{insert_command}
use Rattle.xa_sql_log.proofs.Inserts.{Puts, puts_decision}
use Rattle.xa_sql_log.proofs.Texts.{insert_decision, insert_decision_is, insert_decision_plain}
use Rattle.xa_sql_log.proofs.Maps.{get_booked, is_there}
use Rattle.xa_sql_log.proofs.Parents.{agree_is, decision_carries, key_places, plain_order}
use Rattle.xa_sql_log.proofs.Values.{same_id, known}
use Rattle.xa_base.proofs.Orders.{equal_is}

differ_numbers : (m n : ℤ) → differ (Int m) (Int n) ≡ is_ne (int_cmp m n)
unfolding binary
differ_numbers m n = known (is_ne (value_cmp (Int m) (Int n))) ∙ ap is_ne (value_cmp-Int m n)

not_equal : (o : Ordering) → is_eq o ≡ false → is_ne o ≡ true
not_equal Less h = refl
not_equal Equal h = absurd (true≢false h)
not_equal Greater h = refl

-- rowids of two rows, of which the first is free beside the second
rowids_differ : (m n : ℤ) → is_eq (value_cmp (Int n) (Int m)) ≡ false → differ (Int m) (Int n) ≡ true
rowids_differ m n free = differ_numbers m n ∙ elim (cases_Bool (is_eq (int_cmp m n))) [
  | inl tied ↦ absurd (
      let one : m ≡ n = int_cmp-IsAntisymmetric m n (equal_is _ tied) in
      true≢false (sym (same_id n) ∙ subst (λ x. is_eq (value_cmp (Int n) (Int x)) ≡ false) one free))
  | inr apart ↦ not_equal _ apart
]

free_beside : (rows : List Row) (row r : Row) → is_taken rows row ≡ false → Has rows r → is_eq (value_cmp (rowid r) (rowid row)) ≡ false
free_beside rows row r free h = elim (cases_Bool (is_eq (value_cmp (rowid r) (rowid row)))) [
  | inl tied ↦ absurd (true≢false (sym (some_from (λ x. is_eq (value_cmp (rowid x) (rowid row))) rows r h tied) ∙ free))
  | inr apart ↦ apart
]

decisions_differ : (row r : Row) → IsDecisionRow row → IsDecisionRow r → is_eq (value_cmp (rowid r) (rowid row)) ≡ false
    → differ (rowid row) (rowid r) ≡ true
decisions_differ row r a b free =
    let first : rowid row ≡ Int a.0 = ap rowid a.2 in
    let second : rowid r ≡ Int b.0 = ap rowid b.2 in
    rw (first, second) (rowids_differ a.0 b.0 (rw (first, second) at free))

-- the index of the table's key finds no second row with the key of one
no_clash : (db : Trees) (r : Row) → Keeps Unique log_schema db → Has (db 1) r → clashes plain_order key_places (db 1) r ≡ false
unfolding everything
no_clash db r unique h = not_true _ (and_parts _ _ (all_has _ (db 1) r unique.1.0 h)).0

pub was_absent : (db after : Database) (g : Gtrid) (row : Row) → IsLog db → IsDecisionRow row → gtrid_of_row row ≡ g
    → Puts 1 row db after → Keeps Unique log_schema after.trees → get (content_of db.trees).decisions g ≡ None
was_absent db after g row is row_is named puts unique =
    get_booked (participants_of_rows (db.trees 5)) (db.trees 1) g ∙ ap (λ b. cond b (Some (participants_of_rows (db.trees 5) g)) None) lacks
  where
    clash : (r : Row) → Has (db.trees 1) r → gtrid_eq g (gtrid_of_row r) ≡ true → ⊥
    clash r h same =
        let there : Has (after.trees 1) r = subst (λ rows. Has rows r) (sym puts.rows) (put_keeps row (db.trees 1) r puts.fresh h) in
        let r_is = all_has _ (db.trees 1) r is.decisions h in
        let p : Row → Bool = λ other. agree plain_order key_places other key_places r && differ (rowid other) (rowid r) in
        let agrees : agree plain_order key_places row key_places r ≡ true =
        agree_is row r (gtrid_of_row row) (gtrid_of_row r) (decision_carries row row_is) (decision_carries r r_is)
        ∙ subst (λ q. gtrid_eq q (gtrid_of_row r) ≡ true) (sym named) same in
        let apart = decisions_differ row r row_is r_is (free_beside (db.trees 1) row r puts.fresh h) in
        let found : list_any p (put_row row (db.trees 1)) ≡ true =
        any_put p row (db.trees 1) puts.fresh ∙ rw (agrees, apart) refl in
        true≢false (sym found ∙ ap (list_any p) (sym puts.rows) ∙ no_clash after.trees r unique there)

    lacks : is_there (db.trees 1) g ≡ false
    lacks = elim (cases_Bool (is_there (db.trees 1) g)) [
      | inl some ↦ absurd (let one = some_has _ (db.trees 1) some in clash one.0 one.1 one.2)
      | inr apart ↦ apart
    ]

-- a decision that was written has no row before it
pub decision_absent : (g : Gtrid) → FitsRow g → (params : Row) → params ≡ gtrid_params g → (old new : State) (count : ℕ) → IsLog old.now
    → ExecutesInside 0 insert_decision params old new (Ok count) → get (content_of old.now.trees).decisions g ≡ None
decision_absent g fits params given old new count log h =
    let w =
    runs_as insert_decision (gtrid_params g) old new log_schema log.schema insert_command insert_decision_is insert_decision_plain count
    (subst (λ p. Executes insert_decision p old new (Ok count)) given h.0) in
    let puts =
    (puts_decision old.step_limit (pos g.incarnation) (pos g.sequence) old.now new.now
    (statement_of insert_decision (understood log_schema insert_decision)) w.tally log.schema w.changed).0 in
    was_absent old.now new.now g _ log (_, g, refl, fits) refl puts (subst (λ s. Keeps Unique s new.now.trees) puts.schema (w.sound.obeys.rules Unique))
