-- Who may open a log.
use Rattle.std.specs.Prelude.{◌≡◌, ◌≤◌, ℕ, false, List, Option, Some, None, length, string_bytes}
use Rattle.xa_sql_log.specs.declared.shutting.LogHead.{LogHead}
use Rattle.xa_commands.specs.Names.{MayOpen}

-- A log that says this of itself may be opened by whoever has this label: it isn't shut, and keeps all of the names. If it is none yet, its
-- incarnation is 0.
pub record IsFor (head : LogHead) (label : List ℕ) (incarnation : ℕ) : Type 0 where
  pub opened : MayOpen (string_bytes head.label) label
  pub unshut : head.is_shut ≡ false
  pub all : length label ≤ length (string_bytes head.label)
  pub is : incarnation ≡ head.incarnation

abbrev pub IsOf : Option LogHead → List ℕ → ℕ → Type 0
IsOf None label incarnation = incarnation ≡ 0
IsOf (Some head) label incarnation = IsFor head label incarnation

-- and it has had as many starts as are asked for
pub record IsAdmitted (head : Option LogHead) (label : List ℕ) (at_least incarnation : ℕ) : Type 0 where
  pub its : IsOf head label incarnation
  pub old : at_least ≤ incarnation
