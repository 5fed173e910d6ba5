-- The words of a line.
use Rattle.std.specs.Prelude.{ℕ, ◌==◌, List}
use Rattle.std.specs.List.{slice_split}

abbrev pub Word : Type 0
Word = List ℕ

-- a line, cut at each space
unfoldable pub words_of : List ℕ → List Word
words_of line = slice_split (λ c. c == 32) line
