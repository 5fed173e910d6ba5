-- What the texts of the statements mean over the log's tables: the parser and the resolver, run.
use Rattle.std.proofs.Common.{◌≡◌, ℕ, List, [], ◌∷◌, refl, codes, pos, negsuc, None, false}
use Rattle.sqlite.proofs.Callers.{command_of, IsPlain}
use Rattle.sqlite.specs.Listing.{understood, reads_listing}
use Rattle.sqlite.specs.declared.types.Value.TheVariants.{Null, Int}
use Rattle.sqlite.specs.Command.TheVariants.{Insert, Select, Update, Delete}
use Rattle.sqlite.specs.Source.TheVariants.{Values}
use Rattle.sqlite.specs.Collation.TheVariants.{Binary}
use Rattle.sqlite_sql.specs.declared.ops.BinaryOp.TheVariants.{Compare}
use Rattle.sqlite_sql.specs.declared.ops.UnaryOp.TheVariants.{ToNumeric}
use Rattle.sqlite_sql.specs.declared.ops.CompareOp.TheVariants.{Eq}
use Rattle.sqlite.specs.Term.{Term, lit, col, op1, op2}
use Rattle.sqlite.specs.Query.{Query, inner, end}
use Rattle.sqlite_tied.specs.Compute.{everything}
use Rattle.xa_sql_log.specs.Tables.{log_schema}

-- a query over one table, with no more than WHERE
abbrev pub over : ℕ → List Term → List Term → Query
over tree filter project = record {
  from = inner tree end;
  filter = filter;
  group = None;
  project = project;
  distinct = false;
  collations = [];
  order = [];
  limit = lit (Int (negsuc 0));
  offset = lit (Int (pos 0));
}

-- the column is the parameter
abbrev pub is : ℕ → ℕ → Term
is at param = op2 (Compare Eq Binary) (col 1 at) (op1 ToNumeric (col 0 param))

abbrev pub insert_decision : List ℕ
insert_decision = codes "INSERT INTO decision (inc, seq) VALUES (?1, ?2)"

abbrev pub find_decision : List ℕ
find_decision = codes "SELECT 1 FROM decision WHERE inc = ?1 AND seq = ?2"

abbrev pub delete_decision : List ℕ
delete_decision = codes "DELETE FROM decision WHERE inc = ?1 AND seq = ?2"

pub insert_decision_is : command_of (understood log_schema insert_decision) ≡ Insert 1 (Values (lit Null ∷ col 0 0 ∷ col 0 1 ∷ []) 3)
unfolding understood everything
insert_decision_is = refl

pub insert_decision_plain : IsPlain (understood log_schema insert_decision)
unfolding understood everything
insert_decision_plain = (refl, refl)

pub find_decision_is : command_of (understood log_schema find_decision)
    ≡ Select (record { lets = []; body = over 1 (is 1 0 ∷ is 2 1 ∷ []) (lit (Int (pos 1)) ∷ []) }) (codes "1" ∷ [])
unfolding understood everything
find_decision_is = refl

pub find_decision_plain : IsPlain (understood log_schema find_decision)
unfolding understood everything
find_decision_plain = (refl, refl)

pub find_decision_unlisted : reads_listing log_schema find_decision ≡ false
unfolding understood everything
find_decision_unlisted = refl

pub delete_decision_is : command_of (understood log_schema delete_decision)
    ≡ Delete 1 (record { lets = []; body = over 1 (is 1 0 ∷ is 2 1 ∷ []) (col 1 0 ∷ []) })
unfolding understood everything
delete_decision_is = refl

pub delete_decision_plain : IsPlain (understood log_schema delete_decision)
unfolding understood everything
delete_decision_plain = (refl, refl)

-- ---- participants

abbrev pub insert_participant : List ℕ
insert_participant = codes "INSERT INTO participant (inc, seq, thread, rm) VALUES (?1, ?2, ?3, ?4)"

abbrev pub insert_two : List ℕ
insert_two = codes "INSERT INTO participant (inc, seq, thread, rm) VALUES (?1, ?2, ?3, ?4), (?5, ?6, ?7, ?8)"

abbrev pub find_participants : List ℕ
find_participants = codes "SELECT thread, rm FROM participant WHERE inc = ?1 AND seq = ?2"

pub insert_participant_is : command_of (understood log_schema insert_participant) ≡ Insert 3 (Values (lit Null ∷ col 0 0 ∷ col 0 1 ∷ col 0 2 ∷ col 0 3 ∷ []) 5)
unfolding understood everything
insert_participant_is = refl

pub insert_participant_plain : IsPlain (understood log_schema insert_participant)
unfolding understood everything
insert_participant_plain = (refl, refl)

pub insert_two_is : command_of (understood log_schema insert_two)
    ≡ Insert 3 (Values (lit Null ∷ col 0 0 ∷ col 0 1 ∷ col 0 2 ∷ col 0 3 ∷ lit Null ∷ col 0 4 ∷ col 0 5 ∷ col 0 6 ∷ col 0 7 ∷ []) 5)
unfolding understood everything
insert_two_is = refl

pub insert_two_plain : IsPlain (understood log_schema insert_two)
unfolding understood everything
insert_two_plain = (refl, refl)

pub find_participants_is : command_of (understood log_schema find_participants)
    ≡ Select (record { lets = []; body = over 5 (is 1 0 ∷ is 2 1 ∷ []) (col 1 3 ∷ col 1 4 ∷ []) }) (codes "thread" ∷ codes "rm" ∷ [])
unfolding understood everything
find_participants_is = refl

pub find_participants_plain : IsPlain (understood log_schema find_participants)
unfolding understood everything
find_participants_plain = (refl, refl)

pub find_participants_unlisted : reads_listing log_schema find_participants ≡ false
unfolding understood everything
find_participants_unlisted = refl

-- ---- the incarnation

abbrev pub find_incarnation : List ℕ
find_incarnation = codes "SELECT incarnation FROM tm_meta"

abbrev pub set_incarnation : List ℕ
set_incarnation = codes "UPDATE tm_meta SET incarnation = ?1"

pub find_incarnation_is : command_of (understood log_schema find_incarnation)
    ≡ Select (record { lets = []; body = over 0 [] (col 1 3 ∷ []) }) (codes "incarnation" ∷ [])
unfolding understood everything
find_incarnation_is = refl

pub find_incarnation_plain : IsPlain (understood log_schema find_incarnation)
unfolding understood everything
find_incarnation_plain = (refl, refl)

pub find_incarnation_unlisted : reads_listing log_schema find_incarnation ≡ false
unfolding understood everything
find_incarnation_unlisted = refl

pub set_incarnation_is : command_of (understood log_schema set_incarnation)
    ≡ Update 0 (record { lets = []; body = over 0 [] (col 1 0 ∷ col 1 0 ∷ lit Null ∷ col 1 2 ∷ col 0 0 ∷ []) })
unfolding understood everything
set_incarnation_is = refl

pub set_incarnation_plain : IsPlain (understood log_schema set_incarnation)
unfolding understood everything
set_incarnation_plain = (refl, refl)

-- ---- heuristics

abbrev pub insert_heuristic : List ℕ
insert_heuristic = codes "INSERT INTO heuristic (inc, seq, thread, rm, how) VALUES (?1, ?2, ?3, ?4, ?5)"

abbrev pub find_heuristic : List ℕ
find_heuristic = codes "SELECT how FROM heuristic WHERE inc = ?1 AND seq = ?2 AND thread = ?3 AND rm = ?4"

pub insert_heuristic_is : command_of (understood log_schema insert_heuristic)
    ≡ Insert 2 (Values (lit Null ∷ col 0 0 ∷ col 0 1 ∷ col 0 2 ∷ col 0 3 ∷ col 0 4 ∷ []) 6)
unfolding understood everything
insert_heuristic_is = refl

pub insert_heuristic_plain : IsPlain (understood log_schema insert_heuristic)
unfolding understood everything
insert_heuristic_plain = (refl, refl)

pub find_heuristic_is : command_of (understood log_schema find_heuristic)
    ≡ Select (record { lets = []; body = over 3 (is 1 0 ∷ is 2 1 ∷ is 3 2 ∷ is 4 3 ∷ []) (col 1 5 ∷ []) }) (codes "how" ∷ [])
unfolding understood everything
find_heuristic_is = refl

pub find_heuristic_plain : IsPlain (understood log_schema find_heuristic)
unfolding understood everything
find_heuristic_plain = (refl, refl)

pub find_heuristic_unlisted : reads_listing log_schema find_heuristic ≡ false
unfolding understood everything
find_heuristic_unlisted = refl

-- ---- whole tables

abbrev pub all_decisions : List ℕ
all_decisions = codes "SELECT inc, seq FROM decision"

abbrev pub all_participants : List ℕ
all_participants = codes "SELECT inc, seq, thread, rm FROM participant"

abbrev pub all_heuristics : List ℕ
all_heuristics = codes "SELECT inc, seq, thread, rm, how FROM heuristic"

pub all_decisions_is : command_of (understood log_schema all_decisions)
    ≡ Select (record { lets = []; body = over 1 [] (col 1 1 ∷ col 1 2 ∷ []) }) (codes "inc" ∷ codes "seq" ∷ [])
unfolding understood everything
all_decisions_is = refl

pub all_decisions_plain : IsPlain (understood log_schema all_decisions)
unfolding understood everything
all_decisions_plain = (refl, refl)

pub all_decisions_unlisted : reads_listing log_schema all_decisions ≡ false
unfolding understood everything
all_decisions_unlisted = refl

pub all_participants_is : command_of (understood log_schema all_participants)
    ≡ Select (record { lets = []; body = over 5 [] (col 1 1 ∷ col 1 2 ∷ col 1 3 ∷ col 1 4 ∷ []) })
    (codes "inc" ∷ codes "seq" ∷ codes "thread" ∷ codes "rm" ∷ [])
unfolding understood everything
all_participants_is = refl

pub all_participants_plain : IsPlain (understood log_schema all_participants)
unfolding understood everything
all_participants_plain = (refl, refl)

pub all_participants_unlisted : reads_listing log_schema all_participants ≡ false
unfolding understood everything
all_participants_unlisted = refl

pub all_heuristics_is : command_of (understood log_schema all_heuristics)
    ≡ Select (record { lets = []; body = over 3 [] (col 1 1 ∷ col 1 2 ∷ col 1 3 ∷ col 1 4 ∷ col 1 5 ∷ []) })
    (codes "inc" ∷ codes "seq" ∷ codes "thread" ∷ codes "rm" ∷ codes "how" ∷ [])
unfolding understood everything
all_heuristics_is = refl

pub all_heuristics_plain : IsPlain (understood log_schema all_heuristics)
unfolding understood everything
all_heuristics_plain = (refl, refl)

pub all_heuristics_unlisted : reads_listing log_schema all_heuristics ≡ false
unfolding understood everything
all_heuristics_unlisted = refl
