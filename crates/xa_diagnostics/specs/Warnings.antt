-- What is told of an entry that every run will refuse.
use Rattle.std.specs.Prelude.{ℕ, List, ◌++◌, codes, Option, None}
use Rattle.std.specs.Fmt.{decimal}
use Rattle.xa_diagnostics.specs.Explanations.{numbers_text}

-- the line: the path, perhaps a line of it, the number of the step, and a reason
abbrev pub warning_line : (path : List ℕ) → (number : ℕ) → (line : Option ℕ) → (reason : List ℕ) → List ℕ
warning_line path number line reason =
    path ++ numbers_text line None ++ codes ": warning: step " ++ decimal number ++ codes ": " ++ reason ++ codes "\n"
