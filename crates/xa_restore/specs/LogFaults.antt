-- Which line of a log is wrong, and how: the first one that is.
use Rattle.std.specs.Prelude.{◌≡◌, ◌≤◌, ◌<◌, ℕ, ◌+◌, ◌-◌, List, ◌∷◌, ◌++◌, [], codes, drop, length, map, take, slice_get, Option, Some, None, IsSomeAnd}
use Rattle.std.specs.List.{AllByRecursion}
use Rattle.xa_log.specs.declared.decision.Decision.{Decision}
use Rattle.xa_names.specs.Lines.{line_renamed}
use Rattle.xa_restore.specs.LogLines.{IsRow, Rise, StandsBehind, decision_row_line, incarnation_line, last_behind}
use Rattle.xa_restore.specs.declared.faults.LineFault.{LineFault}
use Rattle.xa_restore.specs.declared.faults.LineFault.TheVariants as lines
use Rattle.xa_restore.specs.declared.faults.RestoreFault.{RestoreFault}
use Rattle.xa_restore.specs.declared.faults.RestoreFault.TheVariants.{Line, Memory}
use Rattle.xa_restore.specs.declared.log_lines.TheConstants.{MOST_STARTS}

module _ (name : List ℕ) (n : ℕ) where
  -- A line after those of these decisions has this fault, in a log of this incarnation: it is the line of no decision that a log can
  -- hold; or of one whose transaction is of a later incarnation, or doesn't come after the last one.
  abbrev pub IsWrongRow : LineFault → List Decision → List ℕ → Type 0
  IsWrongRow lines.Decision before line = (d : Decision) → IsRow d → ¬ (line_renamed name line ≡ decision_row_line d)
  IsWrongRow lines.Later before line = (d : Decision) × (line_renamed name line ≡ decision_row_line d) × (n < d.gtrid.incarnation)
  IsWrongRow lines.Order before line =
      (d : Decision) × (line_renamed name line ≡ decision_row_line d) × ¬ StandsBehind (last_behind None before) d.gtrid
  IsWrongRow fault before line = ⊥

  -- the line at this place is the first wrong one: those before it are the lines of decisions, which rise
  pub record IsFirstWrong (rows : List (List ℕ)) (at : ℕ) (fault : LineFault) : Type 0 where
    pub before : List Decision
    pub right : map (line_renamed name) (take at rows) ≡ map decision_row_line before
    pub started : AllByRecursion (λ d. d.gtrid.incarnation ≤ n) before
    pub rise : Rise before
    pub wrong : IsSomeAnd (slice_get rows at) (IsWrongRow fault before)

  -- the fault of the lines of decisions, of which the first has the number 2
  abbrev pub IsRowFault : List (List ℕ) → RestoreFault → Type 0
  IsRowFault rows (Line number fault) = (2 ≤ number) × IsFirstWrong rows (number - 2) fault
  IsRowFault rows Memory = Unit

-- no line `end` is the last one of two or more
abbrev pub LacksEnd : List (List ℕ) → Type 0
LacksEnd texts = (first : List ℕ) (rows : List (List ℕ)) → ¬ (texts ≡ first ∷ rows ++ codes "end" ∷ [])

abbrev pub IsNoIncarnation : List ℕ → Type 0
IsNoIncarnation line = (n : ℕ) → n ≤ MOST_STARTS → ¬ (line ≡ incarnation_line n)

-- The fault of the lines of a log: the first one is that of no incarnation; the last one isn't `end`, and the number is that of the line
-- after it; or one between them is the first wrong one, in a log of the incarnation that the first line tells.
abbrev pub IsLogFault : (name : List ℕ) → (texts : List (List ℕ)) → RestoreFault → Type 0
IsLogFault name texts (Line number lines.Incarnation) = (number ≡ 1) × IsSomeAnd (slice_get texts 0) IsNoIncarnation
IsLogFault name texts (Line number lines.End) = (number ≡ length texts + 1) × LacksEnd texts
IsLogFault name texts (Line number fault) =
    (n : ℕ) × (slice_get texts 0 ≡ Some (incarnation_line n)) × IsRowFault name n (drop 1 texts) (Line number fault)
IsLogFault name texts Memory = Unit
