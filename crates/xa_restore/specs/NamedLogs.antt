-- The lines of a log that keeps names.
use Rattle.std.specs.Prelude.{◌≡◌, ◌⊎◌, ℕ, ◌+◌, List, ◌++◌, length, map}
use Rattle.xa_log.specs.declared.decision.Decision.{Decision}
use Rattle.xa_restore.specs.Faults.{fault_behind}
use Rattle.xa_restore.specs.Headings.{IsFaultBehind, name_lines, rm_lines}
use Rattle.xa_restore.specs.LogFaults.{IsLogFault}
use Rattle.xa_restore.specs.LogLines.{AreLogLinesOf}
use Rattle.xa_restore.specs.declared.faults.RestoreFault.{RestoreFault}
use Rattle.xa_restore.specs.declared.named_log.NamedLog.{NamedLog}

-- These are the lines of a log with this name of a manager, these names of resource managers, this
-- incarnation and these decisions: those of the names, and after them the others.
pub record AreNamedLinesOf (name : List ℕ) (rms : List (List ℕ)) (n : ℕ) (decisions : List Decision) (lines : List (List ℕ)) : Type 0 where
  pub rest : List (List ℕ)
  pub begins : lines ≡ name_lines name ++ rm_lines rms ++ rest
  pub log : AreLogLinesOf name rest n decisions

-- the same of what was read
abbrev pub HasLines : List (List ℕ) → NamedLog → Type 0
HasLines lines it = AreNamedLinesOf it.heading.name (map (λ rm. rm.now) it.heading.rms.items) it.log.incarnation it.log.decisions.items lines

-- a fault of the lines after those of the names, by its number among all lines
pub record IsFaultBehindNames (lines : List (List ℕ)) (fault : RestoreFault) : Type 0 where
  pub name : List ℕ
  pub rms : List (List ℕ)
  pub rest : List (List ℕ)
  pub begins : lines ≡ name_lines name ++ rm_lines rms ++ rest
  pub own : RestoreFault
  pub is : IsLogFault name rest own
  pub told : fault ≡ fault_behind own (length (name_lines name) + length rms)

-- a fault of the lines of the names, or of the others
abbrev pub IsNamedFault : List (List ℕ) → RestoreFault → Type 0
IsNamedFault lines fault = IsFaultBehind 1 lines fault ⊎ IsFaultBehindNames lines fault
