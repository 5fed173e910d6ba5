-- Lines, one after the other.
use Rattle.std.proofs.Common.{◌≡◌, ◌∙◌, ℕ, ◌+◌, ◌<◌, ◌≤◌, List, ◌∷◌, ◌++◌, length, get_or, drop, Some, sym, ap}
use Rattle.std.proofs.Common.{append_assoc, append-nil, codes, drop_of_length-le}
use Rattle.std.proofs.lemmas.List.{drop_more}
use Rattle.std.specs.Fmt.{decimal}
use Rattle.std.specs.Io.KnownBytes.{Appends}
use Rattle.xa_base.specs.declared.step.Outcome.{Outcome}
use Rattle.xa_jobs.specs.Lines.{end_text, end_line, lines_from}

-- the pieces of a line, as a write of it gives them
pieces : (a b c d e : List ℕ) → a ++ (b ++ (c ++ (d ++ e))) ≡ a ++ b ++ c ++ d ++ e
pieces a b c d e =
    sym (append_assoc a b (c ++ (d ++ e))) ∙ sym (append_assoc (a ++ b) c (d ++ e))
    ∙ sym (append_assoc (a ++ b ++ c) d e)

-- a line in the list, and those after it
at_line : (ends : List Outcome) (i number : ℕ) (end other : Outcome) → i < length ends → end ≡ get_or ends i other
    → lines_from number (drop i ends) ≡ end_line number end ++ lines_from (number + 1) (drop (i + 1) ends)
at_line ends i number end other within is =
    ap (lines_from number) (drop_more ends i other within ∙ ap (λ e. e ∷ drop (i + 1) ends) (sym is))

-- one line more
pub line_written : (old new : List ℕ) (ends : List Outcome) (i number : ℕ) (end other : Outcome) (all : List ℕ)
    → i < length ends → end ≡ get_or ends i other
    → Appends (Some old) (Some new) (codes "job " ++ (decimal number ++ (codes " " ++ (end_text end ++ codes "\n"))))
    → old ++ lines_from number (drop i ends) ≡ all → new ++ lines_from (number + 1) (drop (i + 1) ends) ≡ all
line_written old new ends i number end other all within is written so_far =
    let rest = lines_from (number + 1) (drop (i + 1) ends) in
    let grown : new ≡ old ++ end_line number end =
    written ∙ ap (λ line. old ++ line) (pieces (codes "job ") (decimal number) (codes " ") (end_text end)
    (codes "\n")) in
    ap (λ bytes. bytes ++ rest) grown ∙ append_assoc old (end_line number end) rest
    ∙ ap (λ bytes. old ++ bytes) (sym (at_line ends i number end other within is)) ∙ so_far

-- no line is left
pub lines_end : (lines : List ℕ) (ends : List Outcome) (i number : ℕ) (all : List ℕ) → length ends ≤ i
    → lines ++ lines_from number (drop i ends) ≡ all → lines ≡ all
lines_end lines ends i number all past so_far =
    sym (append-nil lines) ∙ ap (λ es. lines ++ lines_from number es) (sym (drop_of_length-le ends past)) ∙ so_far
