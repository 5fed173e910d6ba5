-- The statements on decisions and participants, from their texts to the content of the log.
use Rattle.std.proofs.Common.{◌≡◌, ℕ, pos, List, [], ◌∷◌, ◌++◌, None, Ok, refl, sym, ap, subst, ◌∙◌, ◌≤◌, to_z, of_z, w64}
use Rattle.std.specs.List.{AllByRecursion}
use Rattle.std.specs.FinMap.{get}
use Rattle.xa_log.specs.KeySet.{KeySet, insert, empty, from_list, from_list_push}
use Rattle.sqlite.specs.declared.types.Value.TheVariants.{Null, Int}
use Rattle.sqlite.specs.Order.{Row}
use Rattle.sqlite.specs.Tree.{IsTable, put_row}
use Rattle.sqlite.specs.Term.{lit, col}
use Rattle.sqlite.specs.Command.{Command}
use Rattle.sqlite.specs.Command.TheVariants.{Insert}
use Rattle.sqlite.specs.Source.TheVariants.{Values}
use Rattle.sqlite.specs.Effect.{Database}
use Rattle.sqlite.specs.State.{State, Executes}
use Rattle.sqlite.proofs.Callers.{runs_as, statement_of}
use Rattle.sqlite.specs.Listing.{understood}
use Rattle.sqlite_trees.proofs.TreeLemmas.{all-put_row, IsTable-put_row}
use Rattle.xa_base.specs.declared.branch.Gtrid.{Gtrid}
use Rattle.xa_base.proofs.BranchOrder.{branches_total, exact_branches}
use Rattle.xa_log.specs.Contract.{FitsRow}
use Rattle.xa_sql_log.specs.Tables.{log_schema}
use Rattle.xa_log.specs.Content.{Content, last_number, with_decision}
use Rattle.xa_base.specs.declared.branch.Branch.{Branch}
use Rattle.xa_base.specs.Branch.{branch_cmp}
use Rattle.xa_sql_log.proofs.Maps.{booked, booked_decision, booked_participant}
use Rattle.xa_sql_log.proofs.Parents.{parents_held}
use Rattle.sqlite.specs.State.{ExecutesInside}
use Rattle.xa_sql_log.specs.Sql.{HasWritten, MayInsert}
use Rattle.xa_sql_log.proofs.Inserts.{PutsTwo, puts_participant, puts_two}
use Rattle.xa_sql_log.proofs.Texts.{insert_participant, insert_participant_is, insert_participant_plain, insert_two, insert_two_is, insert_two_plain}
use Rattle.xa_sql_log.specs.Rows.{IsLog, IsDecisionRow, AreHeuristicRows, IsParticipantRow, gtrid_of_row, branch_of_row, participants_of_rows, content_of, meta_row}
use Rattle.xa_sql_log.proofs.Texts.{insert_decision, insert_decision_is, insert_decision_plain}
use Rattle.xa_sql_log.proofs.Inserts.{Puts, puts_decision}
use Rattle.xa_sql_log.proofs.Contents.{bound_number, gtrid_params}
use Rattle.xa_log.proofs.Alike.{same_content}

-- ---- one more

pub meta_stays : (rows other : List Row) → other ≡ rows → rows ≡ meta_row (content_of (λ _. rows)).incarnation ∷ []
    → other ≡ meta_row (content_of (λ _. other)).incarnation ∷ []
meta_stays rows other same is = subst (λ t. t ≡ meta_row (content_of (λ _. t)).incarnation ∷ []) (sym same) is

pub booked_as : (rows rows′ decisions decisions′ : List Row) → rows ≡ rows′ → decisions ≡ decisions′
    → booked (participants_of_rows rows) decisions ≡ booked (participants_of_rows rows′) decisions′
booked_as rows rows′ decisions decisions′ p q = ap (λ t. booked (participants_of_rows t) decisions) p ∙ ap (booked (participants_of_rows rows′)) q

pub put_content : (db after : Database) (g : Gtrid) (row : Row) → IsLog db → get (content_of db.trees).decisions g ≡ None
    → IsDecisionRow row → gtrid_of_row row ≡ g
    → Puts 1 row db after × (after.trees 0 ≡ db.trees 0) × (after.trees 3 ≡ db.trees 3) × (after.trees 5 ≡ db.trees 5)
    → IsLog after × (content_of after.trees ≡ with_decision g empty (content_of db.trees))
put_content db after g row is none row_is named puts =
    let decisions : AllByRecursion IsDecisionRow (after.trees 1) =
    subst (AllByRecursion IsDecisionRow) (sym puts.0.rows) (all-put_row IsDecisionRow row (db.trees 1) row_is is.decisions) in
    let participants : AllByRecursion IsParticipantRow (after.trees 5) = subst (AllByRecursion IsParticipantRow) (sym puts.3) is.participants in (
      record {
        schema = puts.0.schema;
        meta = meta_stays (db.trees 0) (after.trees 0) puts.1 is.meta;
        decisions = decisions;
        heuristics = subst AreHeuristicRows (sym puts.2) is.heuristics;
        participants = participants;
        decisions_apart = subst IsTable (sym puts.0.rows) (IsTable-put_row row (db.trees 1) is.decisions_apart);
        participants_apart = subst IsTable (sym puts.3) is.participants_apart;
        parents = parents_held after.trees decisions participants puts.0.refers;
      },
      same_content _ _
          (booked_as _ _ _ _ puts.3 puts.0.rows ∙ booked_decision g row (db.trees 1) (db.trees 5) puts.0.fresh named is.parents none)
          (ap (λ t. (content_of (λ _. t)).heuristics) puts.2)
          (ap (λ t. (content_of (λ _. t)).incarnation) puts.1),
    )

pub join_content : (db after : Database) (g : Gtrid) (set : KeySet branch_cmp) (before : Content) (row : Row) → IsLog db
    → content_of db.trees ≡ with_decision g set before → IsParticipantRow row → gtrid_of_row row ≡ g
    → Puts 5 row db after × (after.trees 0 ≡ db.trees 0) × (after.trees 1 ≡ db.trees 1) × (after.trees 3 ≡ db.trees 3)
    → IsLog after × (content_of after.trees ≡ with_decision g (insert set (branch_of_row row)) before)
join_content db after g set before row is was row_is named puts =
    let decisions : AllByRecursion IsDecisionRow (after.trees 1) = subst (AllByRecursion IsDecisionRow) (sym puts.2) is.decisions in
    let participants : AllByRecursion IsParticipantRow (after.trees 5) =
    subst (AllByRecursion IsParticipantRow) (sym puts.0.rows) (all-put_row IsParticipantRow row (db.trees 5) row_is is.participants) in (
      record {
        schema = puts.0.schema;
        meta = meta_stays (db.trees 0) (after.trees 0) puts.1 is.meta;
        decisions = decisions;
        heuristics = subst AreHeuristicRows (sym puts.3) is.heuristics;
        participants = participants;
        decisions_apart = subst IsTable (sym puts.2) is.decisions_apart;
        participants_apart = subst IsTable (sym puts.0.rows) (IsTable-put_row row (db.trees 5) is.participants_apart);
        parents = parents_held after.trees decisions participants puts.0.refers;
      },
      same_content _ _
          (booked_as _ _ _ _ puts.0.rows puts.2 ∙ booked_participant g set before.decisions row (db.trees 1) (db.trees 5) puts.0.fresh named
          (ap (λ (c : Content). c.decisions) was))
          (ap (λ t. (content_of (λ _. t)).heuristics) puts.3 ∙ ap (λ (c : Content). c.heuristics) was)
          (ap (λ t. (content_of (λ _. t)).incarnation) puts.1 ∙ ap (λ (c : Content). c.incarnation) was),
    )

pub join_two : (db after : Database) (g : Gtrid) (before : Content) (row last : Row) → IsLog db
    → content_of db.trees ≡ with_decision g empty before → IsParticipantRow row → gtrid_of_row row ≡ g → IsParticipantRow last → gtrid_of_row last ≡ g
    → PutsTwo 5 row last db after × (after.trees 0 ≡ db.trees 0) × (after.trees 1 ≡ db.trees 1) × (after.trees 3 ≡ db.trees 3)
    → IsLog after × (content_of after.trees ≡ with_decision g (insert (insert empty (branch_of_row row)) (branch_of_row last)) before)
join_two db after g before row last is was row_is named last_is last_named puts =
    let decisions : AllByRecursion IsDecisionRow (after.trees 1) = subst (AllByRecursion IsDecisionRow) (sym puts.2) is.decisions in
    let participants : AllByRecursion IsParticipantRow (after.trees 5) =
    subst (AllByRecursion IsParticipantRow) (sym puts.0.rows)
    (all-put_row IsParticipantRow last (put_row row (db.trees 5)) last_is (all-put_row IsParticipantRow row (db.trees 5) row_is is.participants)) in
    let first =
    booked_participant g empty before.decisions row (db.trees 1) (db.trees 5) puts.0.fresh named (ap (λ (c : Content). c.decisions) was) in (
      record {
        schema = puts.0.schema;
        meta = meta_stays (db.trees 0) (after.trees 0) puts.1 is.meta;
        decisions = decisions;
        heuristics = subst AreHeuristicRows (sym puts.3) is.heuristics;
        participants = participants;
        decisions_apart = subst IsTable (sym puts.2) is.decisions_apart;
        participants_apart =
            subst IsTable (sym puts.0.rows)
            (IsTable-put_row last (put_row row (db.trees 5)) (IsTable-put_row row (db.trees 5) is.participants_apart));
        parents = parents_held after.trees decisions participants puts.0.refers;
      },
      same_content _ _
          (booked_as _ _ _ _ puts.0.rows puts.2
          ∙ booked_participant g (insert empty (branch_of_row row)) before.decisions last (db.trees 1) (put_row row (db.trees 5)) puts.0.fresh_last
          last_named first)
          (ap (λ t. (content_of (λ _. t)).heuristics) puts.3 ∙ ap (λ (c : Content). c.heuristics) was)
          (ap (λ t. (content_of (λ _. t)).incarnation) puts.1 ∙ ap (λ (c : Content). c.incarnation) was),
    )

-- ---- one fewer

abbrev pub branch_params : Branch → Row
branch_params b = Int (pos b.gtrid.incarnation) ∷ Int (pos b.gtrid.sequence) ∷ Int (pos b.thread) ∷ Int (pos b.rm) ∷ []

abbrev pub insert_command : Command
insert_command = Insert 1 (Values (lit Null ∷ col 0 0 ∷ col 0 1 ∷ []) 3)

abbrev pub join_command : Command
join_command = Insert 3 (Values (lit Null ∷ col 0 0 ∷ col 0 1 ∷ col 0 2 ∷ col 0 3 ∷ []) 5)

abbrev pub both_params : Branch → Branch → Row
both_params one other = branch_params one ++ branch_params other

abbrev pub join_two_command : Command
join_two_command =
    Insert 3 (Values (lit Null ∷ col 0 0 ∷ col 0 1 ∷ col 0 2 ∷ col 0 3 ∷ lit Null ∷ col 0 4 ∷ col 0 5 ∷ col 0 6 ∷ col 0 7 ∷ []) 5)

pub writes_decision : (g : Gtrid) → FitsRow g → (params : Row) → params ≡ gtrid_params g → (old new : State) (count : ℕ)
    → MayInsert g old → ExecutesInside 0 insert_decision params old new (Ok count)
    → HasWritten g empty (content_of old.now.trees) new
writes_decision g fits params given old new count begins h =
    let w =
    runs_as insert_decision (gtrid_params g) old new log_schema begins.now.schema insert_command insert_decision_is insert_decision_plain count
    (subst (λ p. Executes insert_decision p old new (Ok count)) given h.0) in
    let made =
    put_content old.now new.now g _ begins.now begins.none (_, g, refl, fits) refl
    (puts_decision old.step_limit (pos g.incarnation) (pos g.sequence) old.now new.now
    (statement_of insert_decision (understood log_schema insert_decision)) w.tally begins.now.schema w.changed) in
    record { is_open = h.1.is_open; inside = h.1.mode; now = made.0; sound = w.sound; content = made.1 }

pub writes_participant : (b : Branch) (params : Row) → params ≡ branch_params b
    → (old new : State) (count : ℕ) (set : KeySet branch_cmp) (before : Content) → HasWritten b.gtrid set before old
    → ExecutesInside 0 insert_participant params old new (Ok count) → HasWritten b.gtrid (insert set b) before new
writes_participant b params given old new count set before has h =
    let w =
    runs_as insert_participant (branch_params b) old new log_schema has.now.schema join_command insert_participant_is insert_participant_plain count
    (subst (λ p. Executes insert_participant p old new (Ok count)) given h.0) in
    let made = join_content old.now new.now b.gtrid set before _ has.now has.content (_, b, refl) refl
    (puts_participant old.step_limit (pos b.gtrid.incarnation) (pos b.gtrid.sequence) (pos b.thread) (pos b.rm) old.now new.now
    (statement_of insert_participant (understood log_schema insert_participant)) w.tally has.now.schema w.changed) in
    record { is_open = h.1.is_open; inside = h.1.mode; now = made.0; sound = w.sound; content = made.1 }

pub writes_two : (one other : Branch) → other.gtrid ≡ one.gtrid → (params : Row) → params ≡ both_params one other
    → (old new : State) (count : ℕ) (before : Content) → HasWritten one.gtrid empty before old
    → ExecutesInside 0 insert_two params old new (Ok count) → HasWritten one.gtrid (from_list (one ∷ other ∷ [])) before new
writes_two one other own params given old new count before has h =
    let w =
    runs_as insert_two (both_params one other) old new log_schema has.now.schema join_two_command insert_two_is insert_two_plain count
    (subst (λ p. Executes insert_two p old new (Ok count)) given h.0) in
    let made = join_two old.now new.now one.gtrid before _ _ has.now has.content (_, one, refl) refl (_, other, refl) own
    (puts_two old.step_limit (pos one.gtrid.incarnation) (pos one.gtrid.sequence) (pos one.thread) (pos one.rm) (pos other.gtrid.incarnation)
    (pos other.gtrid.sequence) (pos other.thread) (pos other.rm) old.now new.now
    (statement_of insert_two (understood log_schema insert_two)) w.tally has.now.schema w.changed) in
    let both : insert (insert empty one) other ≡ from_list (one ∷ other ∷ []) = sym (from_list_push branches_total exact_branches (one ∷ []) other) in
    record {
      is_open = h.1.is_open;
      inside = h.1.mode;
      now = made.0;
      sound = w.sound;
      content = made.1 ∙ ap (λ set. with_decision one.gtrid set before) both;
    }

pub four_params : (b : Branch) → FitsRow b.gtrid → b.thread ≤ last_number → b.rm ≤ last_number
    → Int (to_z w64 (of_z w64 (pos b.gtrid.incarnation))) ∷ Int (to_z w64 (of_z w64 (pos b.gtrid.sequence)))
    ∷ Int (to_z w64 (of_z w64 (pos b.thread))) ∷ Int (to_z w64 (of_z w64 (pos b.rm))) ∷ [] ≡ branch_params b
four_params b fits thread rm =
    rw (bound_number b.gtrid.incarnation fits.0, bound_number b.gtrid.sequence fits.1, bound_number b.thread thread, bound_number b.rm rm) refl

pub eight_params : (one other : Branch) → FitsRow one.gtrid → FitsRow other.gtrid
    → one.thread ≤ last_number → one.rm ≤ last_number → other.thread ≤ last_number → other.rm ≤ last_number
    → Int (to_z w64 (of_z w64 (pos one.gtrid.incarnation))) ∷ Int (to_z w64 (of_z w64 (pos one.gtrid.sequence)))
    ∷ Int (to_z w64 (of_z w64 (pos one.thread))) ∷ Int (to_z w64 (of_z w64 (pos one.rm)))
    ∷ Int (to_z w64 (of_z w64 (pos other.gtrid.incarnation))) ∷ Int (to_z w64 (of_z w64 (pos other.gtrid.sequence)))
    ∷ Int (to_z w64 (of_z w64 (pos other.thread))) ∷ Int (to_z w64 (of_z w64 (pos other.rm))) ∷ [] ≡ both_params one other
eight_params one other fits fits_other thread rm other_thread other_rm =
    rw (
      bound_number one.gtrid.incarnation fits.0,
      bound_number one.gtrid.sequence fits.1,
      bound_number one.thread thread,
      bound_number one.rm rm,
      bound_number other.gtrid.incarnation fits_other.0,
      bound_number other.gtrid.sequence fits_other.1,
      bound_number other.thread other_thread,
      bound_number other.rm other_rm,
    ) refl
