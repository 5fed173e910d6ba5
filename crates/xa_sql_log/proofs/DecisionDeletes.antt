-- A decision's row is deleted, and those of its participants.
use Rattle.std.proofs.Common.{◌≡◌, inl, inr, ℕ, ◌==◌, not, Option, unwrap_or, List, [], ◌∷◌, true, None, Ok, IsTrue, sym, ap, subst, ◌∙◌}
use Rattle.std.specs.List.{AllByRecursion}
use Rattle.std.specs.FinMap.{contains_key}
use Rattle.sqlite.specs.declared.types.Value.TheVariants.{Int}
use Rattle.sqlite.specs.Order.{Row}
use Rattle.sqlite.specs.Tree.{Trees, IsTable}
use Rattle.sqlite.specs.Term.{col}
use Rattle.sqlite.specs.Command.{Command}
use Rattle.sqlite.specs.Command.TheVariants.{Delete}
use Rattle.sqlite.specs.Does.{Tally, Does}
use Rattle.sqlite.specs.Effect.{Database}
use Rattle.sqlite.specs.State.{State, Executes, CommitsBy, Writes}
use Rattle.sqlite.proofs.Callers.{runs_as, statement_of}
use Rattle.sqlite.specs.Listing.{understood}
use Rattle.xa_base.specs.declared.branch.Gtrid.{Gtrid}
use Rattle.xa_base.specs.Branch.{gtrid_eq}
use Rattle.xa_base.proofs.BranchOrder.{exact_gtrids}
use Rattle.xa_sql_log.specs.Tables.{log_schema}
use Rattle.xa_log.specs.Content.{without_decision}
use Rattle.xa_sql_log.proofs.Maps.{booked_without, parts_left}
use Rattle.xa_sql_log.proofs.Parents.{agree_is, decision_carries, participant_carries, parents_held}
use Rattle.sqlite_rules.specs.Lists.{Has}
use Rattle.sqlite_rules.specs.Action.{pairs, is_child_of}
use Rattle.sqlite_rules.specs.Edit.{row_at}
use Rattle.sqlite_rules.proofs.ListLemmas.{all_has, some_has}
use Rattle.sqlite_rules.proofs.ProbeLemmas.{has_mapped}
use Rattle.sqlite_rules.proofs.PlaceLemmas.{row_at_is}
use Rattle.sqlite.specs.Edit.{without_all}
use Rattle.sqlite.specs.Tree.{rowid}
use Rattle.sqlite.specs.State.{ExecutesInside}
use Rattle.std.proofs.lemmas.Bool.{and_parts}
use Rattle.xa_sql_log.specs.Sql.{AreLogTrees, HasMade}
use Rattle.xa_sql_log.proofs.Lasting.{as_log}
use Rattle.xa_sql_log.proofs.Cascade.{cascade}
use Rattle.xa_sql_log.proofs.Inserts.{at_once}
use Rattle.xa_sql_log.proofs.Deletes.{taken_rows}
use Rattle.xa_sql_log.specs.Rows.{IsLog, IsDecisionRow, AreHeuristicRows, IsParticipantRow, gtrid_of_row, content_of}
use Rattle.xa_sql_log.specs.Sql.{HasLogTables}
use Rattle.xa_sql_log.proofs.Texts.{over, delete_decision, delete_decision_is, delete_decision_plain}
use Rattle.sqlite_rules.specs.Calls.{ids_of}
use Rattle.xa_sql_log.proofs.DecisionReads.{some_found}
use Rattle.xa_sql_log.proofs.Deletes.{Takes, takes_decision}
use Rattle.xa_sql_log.proofs.Contents.{gtrid_params, gtrid_tests, all_left, table_left, any_gone, has_gone, has_own}
use Rattle.xa_sql_log.proofs.States.{Did, wrote, commits_as}
use Rattle.xa_base.proofs.Orders.{equal_is}
use Rattle.xa_log.proofs.Alike.{same_content}
use Rattle.xa_sql_log.proofs.DecisionRows.{meta_stays, booked_as}

abbrev pub delete_text : List ℕ
delete_text = statement_of delete_decision (understood log_schema delete_decision)

abbrev pub delete_command : Command
delete_command = Delete 1 (record { lets = []; body = over 1 gtrid_tests (col 1 0 ∷ []) })

has_pairs : (olds : List Row) (move : Row × Row) → Has (pairs olds []) move → Has olds move.0
has_pairs [] move h = absurd h
has_pairs (old ∷ olds) move h = elim h [ inl same ↦ inl (ap (λ (m : Row × Row). m.0) same) | inr later ↦ inr (has_pairs olds move later) ]

module _ (g : Gtrid) (db after : Database) (told : Option ℕ) (is : IsLog db) (takes : Takes gtrid_tests (col 1 0 ∷ []) (gtrid_params g) db after told) where
  -- a decision that is taken is one of the transaction
  taken_is : (old : Row) → Has (taken_rows db.trees takes.found) old → IsDecisionRow old × (gtrid_eq g (gtrid_of_row old) ≡ true)
  taken_is old h =
      let at = has_mapped (row_at (db.trees 1)) (ids_of takes.found) old h in
      let was = has_gone g (db.trees 1) takes.found is.decisions_apart is.decisions takes.answer at.0 at.1 in
      let row = all_has _ (db.trees 1) was.0 is.decisions was.1 in
      let own = subst (λ id. Rattle.sqlite.specs.Tree.has_rowid id was.0 ≡ true) (sym was.3) (has_own was.0 row) in
      let one : old ≡ was.0 = at.2 ∙ row_at_is (db.trees 1) at.0 was.0 is.decisions_apart was.1 own in
      subst (λ r. IsDecisionRow r × (gtrid_eq g (gtrid_of_row r) ≡ true)) (sym one) (row, was.2)

  -- and so is a participant that goes with it
  gone_is : (id : Rattle.std.proofs.Common.ℤ) → Has takes.ids id → (r : Row) × Has (db.trees 5) r × (gtrid_eq g (gtrid_of_row r) ≡ true) × (rowid r ≡ Int id)
  gone_is id k =
      let it = takes.sound id k in
      let olds = taken_rows db.trees takes.found in
      let some = some_has (is_child_of (cascade olds) it.0) (pairs olds []) it.2 in
      let old = some.0.0 in
      let taken = taken_is old (has_pairs olds some.0 some.1) in
      let agrees = (and_parts _ _ some.2).1 in
      let row = all_has _ (db.trees 5) it.0 is.participants it.1 in
      let same : gtrid_eq (gtrid_of_row it.0) (gtrid_of_row old) ≡ true =
      sym (agree_is it.0 old (gtrid_of_row it.0) (gtrid_of_row old) (participant_carries it.0 row) (decision_carries old taken.0)) ∙ agrees in
      let one : gtrid_of_row it.0 ≡ gtrid_of_row old = exact_gtrids (gtrid_of_row it.0) (gtrid_of_row old) (equal_is _ same) in
      (it.0, it.1, subst (λ q. gtrid_eq g q ≡ true) (sym one) taken.1, it.3)

  pub taken_content : IsLog after × (content_of after.trees ≡ without_decision g (content_of db.trees))
  taken_content =
      let decisions : AllByRecursion IsDecisionRow (after.trees 1) =
      subst (AllByRecursion IsDecisionRow) (sym takes.rows) (all_left IsDecisionRow (ids_of takes.found) (db.trees 1) is.decisions) in
      let participants : AllByRecursion IsParticipantRow (after.trees 5) =
      subst (AllByRecursion IsParticipantRow) (sym takes.participants) (all_left IsParticipantRow takes.ids (db.trees 5) is.participants) in (
        record {
          schema = takes.schema;
          meta = meta_stays (db.trees 0) (after.trees 0) takes.meta is.meta;
          decisions = decisions;
          heuristics = subst AreHeuristicRows (sym takes.heuristics) is.heuristics;
          participants = participants;
          decisions_apart = subst IsTable (sym takes.rows) (table_left (ids_of takes.found) (db.trees 1) is.decisions_apart);
          participants_apart = subst IsTable (sym takes.participants) (table_left takes.ids (db.trees 5) is.participants_apart);
          parents = parents_held after.trees decisions participants takes.refers;
        },
        same_content _ _
            (booked_as _ _ _ _ takes.participants takes.rows ∙ booked_without g (db.trees 1) (without_all (db.trees 1) (ids_of takes.found))
            (db.trees 5) (without_all (db.trees 5) takes.ids)
            (any_gone g (db.trees 1) takes.found is.decisions_apart is.decisions takes.answer)
            (parts_left g (db.trees 5) takes.ids is.participants_apart gone_is))
            (ap (λ t. (content_of (λ _. t)).heuristics) takes.heuristics)
            (ap (λ t. (content_of (λ _. t)).incarnation) takes.meta),
      )

module _ (g : Gtrid) (params : Row) (given : params ≡ gtrid_params g) (old : State) (ready : HasLogTables old) where
  takes_rows : (text : List ℕ) (tally : Tally) (after : Database)
      → Does old.step_limit at_once (gtrid_params g) old.now text None delete_command (Ok (tally, after))
      → Takes gtrid_tests (col 1 0 ∷ []) (gtrid_params g) old.now after tally.rows
  takes_rows text tally after h = takes_decision old.step_limit (gtrid_params g) gtrid_tests (col 1 0 ∷ []) old.now after text tally ready.now.schema h

  delete_makes : (text : List ℕ) (tally : Tally) (after : Database)
      → Does old.step_limit at_once (gtrid_params g) old.now text None delete_command (Ok (tally, after))
      → IsLog after × (content_of after.trees ≡ without_decision g (content_of old.now.trees))
  delete_makes text tally after h = taken_content g old.now after tally.rows ready.now (takes_rows text tally after h)

  ran_as : (new : State) (count : ℕ) → Executes delete_decision params old new (Ok count)
      → Writes old new None delete_command delete_text (gtrid_params g) count
  ran_as new count h =
      runs_as delete_decision (gtrid_params g) old new log_schema ready.now.schema delete_command delete_decision_is delete_decision_plain count
      (subst (λ p. Executes delete_decision p old new (Ok count)) given h)

  pub deletes : (new : State) (count : ℕ) → Executes delete_decision params old new (Ok count) → Did (without_decision g) old new
  deletes new count h =
      let w = ran_as new count h in
      let made = delete_makes delete_text w.tally new.now w.changed in
      wrote (without_decision g) old new ready w.shown made.0 made.1

  -- it counts a row just where there was one
  pub deletes_some : (new : State) (count : ℕ) → Executes delete_decision params old new (Ok count)
      → not (count == 0) ≡ contains_key (content_of old.now.trees).decisions g
  deletes_some new count h =
      let w = ran_as new count h in
      let takes = takes_rows delete_text w.tally new.now w.changed in
      ap (λ n. not (n == 0)) (w.counted ∙ ap (λ rows. unwrap_or rows 0) takes.told)
      ∙ some_found g old.now (col 1 0 ∷ []) takes.found ready.now takes.answer

  pub delete_commits : IsTrue old.is_open → (db : Trees) → CommitsBy delete_decision params old db
      → (content_of db ≡ without_decision g (content_of old.now.trees)) × AreLogTrees db
  delete_commits is_open db h =
      elim (commits_as delete_decision delete_decision_plain old (λ _. ready) is_open delete_command delete_decision_is (gtrid_params g) db
      (subst (λ p. CommitsBy delete_decision p old db) given h)) [
        | inl (inl is, same) ↦ absurd (let e = is in cc)
        | inl (inr release, same) ↦ absurd (let e = release.2 in cc)
        | inr writes ↦ (let made = delete_makes delete_text writes.1 writes.2 writes.3 in
            (ap content_of writes.5 ∙ made.1, subst AreLogTrees (sym writes.5) (as_log writes.2 made.0 writes.4)))
      ]

-- ---- in a transaction

pub deletes_inside : (g : Gtrid) (params : Row) → params ≡ gtrid_params g → (old new : State) (count : ℕ)
    → IsLog old.now → ExecutesInside 0 delete_decision params old new (Ok count) → HasMade (without_decision g) old new
deletes_inside g params given old new count log h =
    let w =
    runs_as delete_decision (gtrid_params g) old new log_schema log.schema delete_command delete_decision_is delete_decision_plain count
    (subst (λ p. Executes delete_decision p old new (Ok count)) given h.0) in
    let made =
    taken_content g old.now new.now w.tally.rows log
    (takes_decision old.step_limit (gtrid_params g) gtrid_tests (col 1 0 ∷ []) old.now new.now delete_text w.tally log.schema w.changed) in
    record { was_open = w.shown.was_open; is_open = h.1.is_open; inside = h.1.mode; now = made.0; sound = w.sound; content = made.1 }
