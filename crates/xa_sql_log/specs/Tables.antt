-- The tables of the log: version 1, and version 2 with the participants of each decision.
use Rattle.std.specs.Prelude.{codes, List, ℕ, [], ◌∷◌, pos, true, false, Some, None}
use Rattle.sqlite.specs.Collation.TheVariants.{Binary}
use Rattle.sqlite.specs.declared.types.Value.TheVariants.{Null, Int}
use Rattle.sqlite.specs.Table.{Table}
use Rattle.sqlite.specs.Schema.{Schema}
use Rattle.sqlite.specs.Kind.TheVariants.{Integer}
use Rattle.sqlite_schema.specs.declared.schema.Column.{Column}
use Rattle.sqlite_schema.specs.declared.schema.Index.{Index}
use Rattle.sqlite_schema.specs.declared.schema.Reference.{Reference}
use Rattle.sqlite_schema.specs.declared.schema.Action.TheVariants.{NoAction, Cascade}
use Rattle.sqlite_sql.specs.Term.{lit, col, op2}
use Rattle.sqlite_sql.specs.declared.ops.BinaryOp.TheVariants.{Compare, And}
use Rattle.sqlite_sql.specs.declared.ops.CompareOp.TheVariants.{Eq, Ge, Le}

abbrev pub meta_text : List ℕ
meta_text = codes "CREATE TABLE tm_meta (k INTEGER PRIMARY KEY CHECK (k = 1), version INTEGER NOT NULL, incarnation INTEGER NOT NULL)"

abbrev pub decision_text : List ℕ
decision_text = codes "CREATE TABLE decision (inc INTEGER NOT NULL, seq INTEGER NOT NULL, PRIMARY KEY (inc, seq))"

abbrev pub heuristic_text : List ℕ
heuristic_text =
    codes "CREATE TABLE heuristic (inc INTEGER NOT NULL, seq INTEGER NOT NULL, thread INTEGER NOT NULL, rm INTEGER NOT NULL, how INTEGER NOT NULL, PRIMARY KEY (inc, seq, thread, rm), CHECK (how >= 5 AND how <= 8))"

abbrev pub number : List ℕ → Column
number name = record { name = name; kind = Integer; is_strict = false; not_null = true; default = Null; collation = Binary }

abbrev pub meta : Table
meta = record {
  name = codes "tm_meta";
  tree = 0;
  columns =
      (record { name = codes "k"; kind = Integer; is_strict = false; not_null = false; default = Null; collation = Binary })
      ∷ number (codes "version") ∷ number (codes "incarnation") ∷ [];
  key = Some 0;
  primary = 0 ∷ [];
  uniques = [];
  orders = [];
  checks = op2 (Compare Eq Binary) (col 1 0) (lit (Int (pos 1))) ∷ [];
  references = [];
  computed = [];
  stamps = record { places = []; terms = []; formats = [] };
  is_counted = false;
}

abbrev pub decision : Table
decision = record {
  name = codes "decision";
  tree = 1;
  columns = number (codes "inc") ∷ number (codes "seq") ∷ [];
  key = None;
  primary = 1 ∷ 2 ∷ [];
  uniques = (1 ∷ 2 ∷ []) ∷ [];
  orders = (record { digits = 0 }) ∷ [];
  checks = [];
  references = [];
  computed = [];
  stamps = record { places = []; terms = []; formats = [] };
  is_counted = false;
}

abbrev pub heuristic : Table
heuristic = record {
  name = codes "heuristic";
  tree = 3;
  columns = number (codes "inc") ∷ number (codes "seq") ∷ number (codes "thread") ∷ number (codes "rm") ∷ number (codes "how") ∷ [];
  key = None;
  primary = 1 ∷ 2 ∷ 3 ∷ 4 ∷ [];
  uniques = (1 ∷ 2 ∷ 3 ∷ 4 ∷ []) ∷ [];
  orders = (record { digits = 0 }) ∷ [];
  checks = op2 And (op2 (Compare Ge Binary) (col 1 5) (lit (Int (pos 5)))) (op2 (Compare Le Binary) (col 1 5) (lit (Int (pos 8)))) ∷ [];
  references = [];
  computed = [];
  stamps = record { places = []; terms = []; formats = [] };
  is_counted = false;
}

abbrev pub decision_key : Index
decision_key = record { name = codes "sqlite_autoindex_decision_1"; tree = 2; table = 1; columns = 1 ∷ 2 ∷ []; order = record { digits = 0 }; is_unique = true }

abbrev pub heuristic_key : Index
heuristic_key =
    record { name = codes "sqlite_autoindex_heuristic_1"; tree = 4; table = 3; columns = 1 ∷ 2 ∷ 3 ∷ 4 ∷ []; order = record { digits = 0 }; is_unique = true }

abbrev pub no_tables : Schema
no_tables = record { tables = []; indexes = []; views = [] }

abbrev pub old_schema : Schema
old_schema = record { tables = meta ∷ decision ∷ heuristic ∷ []; indexes = decision_key ∷ heuristic_key ∷ []; views = [] }

abbrev pub participant_text : List ℕ
participant_text =
    codes "CREATE TABLE participant (inc INTEGER NOT NULL, seq INTEGER NOT NULL, thread INTEGER NOT NULL, rm INTEGER NOT NULL, PRIMARY KEY (inc, seq, thread, rm), FOREIGN KEY (inc, seq) REFERENCES decision (inc, seq) ON DELETE CASCADE)"

-- a participant has a decision, and goes with it
abbrev pub of_decision : Reference
of_decision =
    record {
      columns = 1 ∷ 2 ∷ [];
      parent = codes "decision";
      parent_columns = codes "inc" ∷ codes "seq" ∷ [];
      on_delete = Cascade;
      on_update = NoAction;
      is_deferred = false;
    }

abbrev pub participant : Table
participant = record {
  name = codes "participant";
  tree = 5;
  columns = number (codes "inc") ∷ number (codes "seq") ∷ number (codes "thread") ∷ number (codes "rm") ∷ [];
  key = None;
  primary = 1 ∷ 2 ∷ 3 ∷ 4 ∷ [];
  uniques = (1 ∷ 2 ∷ 3 ∷ 4 ∷ []) ∷ [];
  orders = (record { digits = 0 }) ∷ [];
  checks = [];
  references = of_decision ∷ [];
  computed = [];
  stamps = record { places = []; terms = []; formats = [] };
  is_counted = false;
}

abbrev pub participant_key : Index
participant_key =
    record { name = codes "sqlite_autoindex_participant_1"; tree = 6; table = 5; columns = 1 ∷ 2 ∷ 3 ∷ 4 ∷ []; order = record { digits = 0 }; is_unique = true }

abbrev pub log_schema : Schema
log_schema = record { tables = meta ∷ decision ∷ heuristic ∷ participant ∷ []; indexes = decision_key ∷ heuristic_key ∷ participant_key ∷ []; views = [] }
