-- The names that the lines of a log begin with.
use Rattle.std.specs.Prelude.{◌≡◌, ◌&&◌, ◌≤◌, ℕ, ◌+◌, ◌-◌, Bool, false, true, nat_le, List, [], ◌∷◌, ◌++◌, codes, length, slice_get, IsSomeAnd}
use Rattle.std.specs.Fmt.{decimal}
use Rattle.std.specs.Borrow.{Bor}
use Rattle.std.specs.List.{AllPairs, list_all}
use Rattle.std.specs.Str.{bytes_eq}
use Rattle.xa_names.specs.Names.{is_manager_name, is_manager_name_byte}
use Rattle.xa_restore.specs.declared.faults.LineFault.{LineFault}
use Rattle.xa_restore.specs.declared.faults.LineFault.TheVariants as lines
use Rattle.xa_restore.specs.declared.faults.RestoreFault.{RestoreFault}
use Rattle.xa_restore.specs.declared.faults.RestoreFault.TheVariants.{Line, Memory}
use Rattle.xa_restore.specs.declared.heading.TheConstants.{RM_NAME_LEN}

-- a text that may be the name of a resource manager
abbrev pub is_rm_name : List ℕ → Bool
is_rm_name text = nat_le 1 (length text) && (nat_le (length text) RM_NAME_LEN && list_all is_manager_name_byte text)

abbrev pub name_line : List ℕ → List ℕ
name_line name = codes "name " ++ name

abbrev pub rm_line : ℕ → List ℕ → List ℕ
rm_line number rm = codes "rm " ++ decimal number ++ codes " " ++ rm

-- a line for each resource manager, from this number on
abbrev pub rm_lines_from : ℕ → List (List ℕ) → List (List ℕ)
rm_lines_from number [] = []
rm_lines_from number (rm ∷ rms) = rm_line number rm ∷ rm_lines_from (number + 1) rms

abbrev pub rm_lines : List (List ℕ) → List (List ℕ)
rm_lines = rm_lines_from 0

-- the line of the manager's name; none, where it has none
abbrev pub name_lines : List ℕ → List (List ℕ)
name_lines [] = []
name_lines name = name_line name ∷ []

-- no name comes twice
abbrev pub AreApart : List (Bor (List ℕ)) → Type 0
AreApart = AllPairs (λ a b. bytes_eq a.now b.now ≡ false)

-- The lines begin with those of these names: that of the manager's, where it has one, and one for each resource manager.
pub record IsHeadingOf (name : List ℕ) (rms : List (List ℕ)) (lines : List (List ℕ)) : Type 0 where
  pub rest : List (List ℕ)
  pub begins : lines ≡ name_lines name ++ rm_lines rms ++ rest

-- a line that has this fault: it gives the manager what is no name, or begins like that of a resource manager's name
abbrev pub IsWrongLine : LineFault → List ℕ → Type 0
IsWrongLine lines.Name line = (word : List ℕ) × (line ≡ name_line word) × ¬ (is_manager_name word ≡ true)
IsWrongLine lines.Rm line = (rest : List ℕ) × (line ≡ codes "rm " ++ rest)
IsWrongLine fault line = ⊥

-- the fault of lines, of which the first has this number, lies in the line whose number it tells
abbrev pub IsFaultBehind : (first : ℕ) → List (List ℕ) → RestoreFault → Type 0
IsFaultBehind first lines (Line number fault) = (first ≤ number) × IsSomeAnd (slice_get lines (number - first)) (IsWrongLine fault)
IsFaultBehind first lines Memory = Unit
