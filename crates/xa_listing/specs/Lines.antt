-- The text of rows as a log lists them: the decisions beside the participants of all of them.
use Rattle.std.specs.Prelude.{ℕ, Bool, List, [], ◌∷◌, ◌++◌, drop, length, take}
use Rattle.std.specs.List.{flat_map, prefix_len}
use Rattle.xa_base.specs.Branch.{gtrid_eq}
use Rattle.xa_base.specs.declared.branch.Branch.{Branch}
use Rattle.xa_base.specs.declared.branch.Gtrid.{Gtrid}
use Rattle.xa_base.specs.declared.code.How.{How}
use Rattle.xa_listing.specs.Texts.{count_line, heuristic_line}

-- whether a branch is one of the transaction
abbrev pub is_of_transaction : Gtrid → Branch → Bool
is_of_transaction g b = gtrid_eq b.gtrid g

-- how many of the branches, from the first on, are of the transaction
abbrev pub own_count : Gtrid → List Branch → ℕ
own_count g branches = prefix_len (is_of_transaction g) branches

-- a text for each decision, which takes as many of the participants as are its own
abbrev pub row_lines : (Gtrid → List Branch → List ℕ) → List Gtrid → List Branch → List ℕ
row_lines text [] participants = []
row_lines text (g ∷ gs) participants =
    text g (take (own_count g participants) participants)
    ++ row_lines text gs (drop (own_count g participants) participants)

-- a line for each, with how many they are
abbrev pub decision_lines : List Gtrid → List Branch → List ℕ
decision_lines = row_lines (λ g branches. count_line g (length branches))

abbrev pub heuristic_lines : List (Branch × How) → List ℕ
heuristic_lines = flat_map heuristic_line

abbrev pub rows_text : List Gtrid → List Branch → List (Branch × How) → List ℕ
rows_text decisions participants heuristics =
    decision_lines decisions participants ++ heuristic_lines heuristics
