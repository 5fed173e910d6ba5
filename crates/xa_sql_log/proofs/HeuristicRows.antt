-- The statements on the rows of heuristic ends, from their texts to the content of the log.
use Rattle.std.proofs.Common.{◌≡◌, inl, inr, ℕ, pos, List, [], ◌∷◌, map, false, Some, None, Ok, IsTrue, is_some, unwrap_or, refl, sym, ap, subst, ◌∙◌, Ordering, Less, Equal, Greater, ◌≤◌, w32, w64, to_z, of_z}
use Rattle.std.specs.Ordering.{match_ordering}
use Rattle.std.specs.List.{AllByRecursion}
use Rattle.std.specs.FinMap.{get, from_entries, find, get-from_entries, insert}
use Rattle.std.proofs.lemmas.Bool.{cases_Bool}
use Rattle.std.proofs.lemmas.Cmp.{eq_by_cmp_equiv}
use Rattle.sqlite.specs.declared.types.Value.TheVariants.{Null, Int}
use Rattle.sqlite.specs.Order.{Row}
use Rattle.sqlite.specs.Tree.{Trees, IsTable, IsAscending, put_row, rowid}
use Rattle.sqlite.specs.Edit.{is_taken}
use Rattle.sqlite.specs.Term.{lit, col}
use Rattle.sqlite.specs.Command.{Command}
use Rattle.sqlite.specs.Command.TheVariants.{Insert}
use Rattle.sqlite.specs.Source.TheVariants.{Values}
use Rattle.sqlite.specs.Effect.{Database}
use Rattle.sqlite.specs.Does.{Tally, Does}
use Rattle.sqlite.specs.Listing.{understood}
use Rattle.sqlite.specs.State.{State, Executes, CommitsBy}
use Rattle.sqlite.proofs.Callers.{statement_of, runs_as}
use Rattle.sqlite_value.specs.Order.{value_cmp}
use Rattle.sqlite_rules.specs.Lists.{Has}
use Rattle.sqlite_rules.proofs.ListLemmas.{all_from}
use Rattle.sqlite_rules.proofs.ProbeLemmas.{has_mapped, mapped_has}
use Rattle.sqlite_rules.proofs.TableLemmas.{has_put, put_has}
use Rattle.sqlite_trees.proofs.TreeLemmas.{all-put_row, IsTable-put_row}
use Rattle.xa_base.specs.declared.branch.Branch.{Branch}
use Rattle.xa_base.specs.declared.code.How.{How}
use Rattle.xa_base.specs.declared.code.How.TheVariants as Ends
use Rattle.xa_base.specs.Branch.{branch_cmp, branch_eq}
use Rattle.xa_base.specs.Code.{how_number}
use Rattle.xa_base.proofs.BranchOrder.{branches_total, exact_branches}
use Rattle.xa_log.specs.Content.{last_number, with_heuristic, with_heuristic_record}
use Rattle.xa_log.specs.Contract.{FitsRow}
use Rattle.xa_sql_log.specs.Tables.{log_schema}
use Rattle.xa_sql_log.specs.Rows.{IsLog, IsDecisionRow, IsHeuristicRow, AreHeuristicRows, IsParticipantRow, HasDecision, branch_of_row, how_of_row, content_of}
use Rattle.xa_sql_log.specs.Sql.{AreLogTrees, HasLogTables}
use Rattle.xa_sql_log.proofs.Lasting.{as_log}
use Rattle.xa_sql_log.proofs.Texts.{is, insert_heuristic, insert_heuristic_is, insert_heuristic_plain}
use Rattle.xa_sql_log.proofs.Contents.{bound_number, put_keeps}
use Rattle.xa_sql_log.proofs.Inserts.{Puts, at_once, puts_heuristic}
use Rattle.xa_sql_log.proofs.DecisionRows.{booked_as, meta_stays}
use Rattle.xa_sql_log.proofs.SameEntries.{has_find, same_entries_in}
use Rattle.xa_sql_log.proofs.States.{Did, wrote, commits_as}
use Rattle.xa_sql_log.proofs.HeuristicReads.{entry_in, how_read, differ, entries_once}
use Rattle.xa_base.proofs.Orders.{equal_is}
use Rattle.xa_log.proofs.Alike.{same_content}

-- ---- the write

swapped : (a b : Row) → differ a b → differ b a
swapped a b other = sym ((eq_by_cmp_equiv branches_total).symm (branch_of_row a) (branch_of_row b)) ∙ other

once_put : (new : Row) (rows : List Row) → AllByRecursion (differ new) rows → IsAscending differ rows → IsAscending differ (put_row new rows)
once_put new [] all once = (tt, tt)
once_put new (r ∷ rows) all once = go (value_cmp (rowid r) (rowid new)) (once_put new rows all.1 once.1)
  where
    go : (o : Ordering) → IsAscending differ (put_row new rows) → IsAscending differ (match_ordering o (r ∷ put_row new rows) (new ∷ rows) (new ∷ r ∷ rows))
    go Less later = (all-put_row (differ r) new rows (swapped new r all.0) once.0, later)
    go Equal later = (all.1, once.1)
    go Greater later = (all, once)

-- no row of the branch is there
none_there : (b : Branch) (new : Row) (rows : List Row) → branch_of_row new ≡ b → IsAscending differ rows
    → get (from_entries {R = branch_cmp} (map entry_in rows)) b ≡ None → AllByRecursion (differ new) rows
none_there b new rows named once none = all_from (differ new) rows (λ r h. elim (cases_Bool (branch_eq (branch_of_row new) (branch_of_row r))) [
  | inl same ↦ absurd (
      let one : b ≡ branch_of_row r = sym named ∙ exact_branches _ _ (equal_is _ same) in
      let found : find branch_cmp b (map entry_in rows) ≡ Some (how_of_row r) =
      ap (λ x. find branch_cmp x (map entry_in rows)) one
      ∙ has_find branches_total exact_branches _ _ _ (entries_once rows once) (mapped_has entry_in rows r h) in
      let clash : Some (how_of_row r) ≡ None = sym found ∙ sym (get-from_entries branches_total (map entry_in rows) b) ∙ none in
      cc)
  | inr other ↦ other
])

put_entries : (new : Row) (rows : List Row) → is_taken rows new ≡ false → AllByRecursion (differ new) rows → IsAscending differ rows
    → from_entries {R = branch_cmp} (map entry_in (put_row new rows)) ≡ insert (from_entries (map entry_in rows)) (branch_of_row new) (how_of_row new)
put_entries new rows free others once =
    same_entries_in branches_total exact_branches (map entry_in (put_row new rows)) (map entry_in (new ∷ rows))
    (λ e h. let r = has_mapped entry_in (put_row new rows) e h in subst (Has (map entry_in (new ∷ rows))) (sym r.2) (elim (put_has new rows r.0 r.1) [
      | inl one ↦ inl (ap entry_in one)
      | inr was ↦ inr (mapped_has entry_in rows r.0 was)
    ]))
    (λ e h. elim h [
      | inl one ↦ subst (Has (map entry_in (put_row new rows))) (sym one) (mapped_has entry_in (put_row new rows) new (has_put new rows))
      | inr later ↦ (let r = has_mapped entry_in rows e later in
          subst (Has (map entry_in (put_row new rows))) (sym r.2) (mapped_has entry_in (put_row new rows) r.0 (put_keeps new rows r.0 free r.1)))
    ])
    (entries_once (new ∷ rows) (others, once))

abbrev pub end_params : Branch → How → Row
end_params b how = Int (pos b.gtrid.incarnation) ∷ Int (pos b.gtrid.sequence) ∷ Int (pos b.thread) ∷ Int (pos b.rm) ∷ Int (how_number how) ∷ []

-- an i32 that is bound as an i64
bound_how : (how : How) → to_z w64 (of_z w64 (to_z w32 (of_z w32 (how_number how)))) ≡ how_number how
bound_how Ends.Com = refl
bound_how Ends.Rb = refl
bound_how Ends.Mix = refl
bound_how Ends.Haz = refl

pub five_params : (b : Branch) (how : How) → FitsRow b.gtrid → b.thread ≤ last_number → b.rm ≤ last_number
    → Int (to_z w64 (of_z w64 (pos b.gtrid.incarnation))) ∷ Int (to_z w64 (of_z w64 (pos b.gtrid.sequence)))
    ∷ Int (to_z w64 (of_z w64 (pos b.thread))) ∷ Int (to_z w64 (of_z w64 (pos b.rm)))
    ∷ Int (to_z w64 (of_z w64 (to_z w32 (of_z w32 (how_number how))))) ∷ [] ≡ end_params b how
five_params b how fits thread rm =
    rw (bound_number b.gtrid.incarnation fits.0, bound_number b.gtrid.sequence fits.1, bound_number b.thread thread, bound_number b.rm rm, bound_how how) refl

abbrev insert_end : Command
insert_end = Insert 2 (Values (lit Null ∷ col 0 0 ∷ col 0 1 ∷ col 0 2 ∷ col 0 3 ∷ col 0 4 ∷ []) 6)

record_content : (db after : Database) (b : Branch) (how : How) (row : Row) → IsLog db
    → get (content_of db.trees).heuristics b ≡ None → IsHeuristicRow row → entry_in row ≡ (b, how)
    → Puts 3 row db after × (after.trees 0 ≡ db.trees 0) × (after.trees 1 ≡ db.trees 1) × (after.trees 5 ≡ db.trees 5)
    → IsLog after × (content_of after.trees ≡ with_heuristic b how (content_of db.trees))
record_content db after b how row is none row_is says puts =
    let named : branch_of_row row ≡ b = ap (λ (e : Branch × How). e.0) says in
    let others = none_there b row (db.trees 3) named is.heuristics.once none in (
      record {
        schema = puts.0.schema;
        meta = meta_stays (db.trees 0) (after.trees 0) puts.1 is.meta;
        decisions = subst (AllByRecursion IsDecisionRow) (sym puts.2) is.decisions;
        heuristics = subst AreHeuristicRows (sym puts.0.rows) (record {
          all = all-put_row IsHeuristicRow row (db.trees 3) row_is is.heuristics.all;
          apart = IsTable-put_row row (db.trees 3) is.heuristics.apart;
          once = once_put row (db.trees 3) others is.heuristics.once;
        });
        participants = subst (AllByRecursion IsParticipantRow) (sym puts.3) is.participants;
        decisions_apart = subst IsTable (sym puts.2) is.decisions_apart;
        participants_apart = subst IsTable (sym puts.3) is.participants_apart;
        parents =
            subst (λ t. AllByRecursion (HasDecision t) (after.trees 5)) (sym puts.2)
            (subst (AllByRecursion (HasDecision (db.trees 1))) (sym puts.3) is.parents);
      },
      same_content _ _
          (booked_as _ _ _ _ puts.3 puts.2)
          (ap (λ t. (content_of (λ _. t)).heuristics) puts.0.rows ∙ put_entries row (db.trees 3) puts.0.fresh others is.heuristics.once
          ∙ ap (λ (e : Branch × How). insert (content_of db.trees).heuristics e.0 e.1) says)
          (ap (λ t. (content_of (λ _. t)).incarnation) puts.1),
    )

module _ (b : Branch) (how : How) (fits : FitsRow b.gtrid) (params : Row) (given : params ≡ end_params b how) (old : State)
    (ready : HasLogTables old) (none : get (content_of old.now.trees).heuristics b ≡ None) where
  as_recorded : with_heuristic b how (content_of old.now.trees) ≡ with_heuristic_record b how (content_of old.now.trees)
  as_recorded = ap (λ o. Rattle.std.proofs.Common.cond (is_some o) (content_of old.now.trees) (with_heuristic b how (content_of old.now.trees))) (sym none)

  record_makes : (text : List ℕ) (tally : Tally) (after : Database)
      → Does old.step_limit at_once (end_params b how) old.now text None insert_end (Ok (tally, after))
      → IsLog after × (content_of after.trees ≡ with_heuristic_record b how (content_of old.now.trees))
  record_makes text tally after h =
      let made = record_content old.now after b how _ ready.now none (_, b, how, refl, fits) (ap (λ o. (b, unwrap_or o Ends.Com)) (how_read how))
      (puts_heuristic old.step_limit (pos b.gtrid.incarnation) (pos b.gtrid.sequence) (pos b.thread) (pos b.rm)
      (how_number how) old.now after text tally ready.now.schema h) in
      (made.0, made.1 ∙ as_recorded)

  pub records : (new : State) (count : ℕ) → Executes insert_heuristic params old new (Ok count) → Did (with_heuristic_record b how) old new
  records new count h =
      let w =
      runs_as insert_heuristic (end_params b how) old new log_schema ready.now.schema insert_end insert_heuristic_is insert_heuristic_plain count
      (subst (λ p. Executes insert_heuristic p old new (Ok count)) given h) in
      let made = record_makes (statement_of insert_heuristic (understood log_schema insert_heuristic)) w.tally new.now w.changed in
      wrote (with_heuristic_record b how) old new ready w.shown made.0 made.1

  pub record_commits : IsTrue old.is_open → (db : Trees) → CommitsBy insert_heuristic params old db
      → (content_of db ≡ with_heuristic_record b how (content_of old.now.trees)) × AreLogTrees db
  record_commits is_open db h =
      elim (commits_as insert_heuristic insert_heuristic_plain old (λ _. ready) is_open insert_end insert_heuristic_is (end_params b how) db
      (subst (λ p. CommitsBy insert_heuristic p old db) given h)) [
        | inl (inl is, same) ↦ absurd (let e = is in cc)
        | inl (inr release, same) ↦ absurd (let e = release.2 in cc)
        | inr writes ↦ (
            let made = record_makes (statement_of insert_heuristic (understood log_schema insert_heuristic)) writes.1 writes.2 writes.3 in
            (ap content_of writes.5 ∙ made.1, subst AreLogTrees (sym writes.5) (as_log writes.2 made.0 writes.4)))
      ]
