-- A log with a label, which stands in a comment of the text that made its table `participant`.
use Rattle.std.specs.Prelude.{◌≡◌, ℕ, Bool, ◌&&◌, ◌||◌, ◌==◌, nat_le, List, ◌++◌, Ok}
use Rattle.std.specs.List.{list_all}
use Rattle.sqlite.proofs.Callers.{IsPlain, command_of, statement_of}
use Rattle.sqlite.specs.Command.TheVariants.{CreateTable}
use Rattle.sqlite.specs.Compile.{table_defined_by}
use Rattle.sqlite.specs.Listing.{understood}
use Rattle.xa_sql_log.specs.Tables.{old_schema, participant}
use Rattle.xa_sql_log.specs.declared.label.TheConstants.{LABEL_END, LABEL_START}

-- a letter, a digit, `_`, `-` or a space
abbrev pub is_label_byte : ℕ → Bool
is_label_byte c = (nat_le 48 c && nat_le c 57) || (nat_le 65 c && nat_le c 90) || (nat_le 97 c && nat_le c 122) || (c == 95) || (c == 45) || (c == 32)

abbrev pub is_label : List ℕ → Bool
is_label label = list_all is_label_byte label

-- the text that makes the table of a log with this label
abbrev pub labelled : List ℕ → List ℕ
labelled label = LABEL_START.now ++ (label ++ LABEL_END.now)

-- the statement makes the table of participants, beside the other three
pub record MakesParticipants (sql : List ℕ) : Type 0 where
  pub command : command_of (understood old_schema sql) ≡ CreateTable
  pub plain : IsPlain (understood old_schema sql)
  pub whole : statement_of sql (understood old_schema sql) ≡ sql
  pub table : table_defined_by sql ≡ Ok (record participant { tree = 0 })
