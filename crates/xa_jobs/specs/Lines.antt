-- The lines that tell how the jobs ended.
use Rattle.std.specs.Prelude.{ℕ, ◌+◌, List, [], ◌∷◌, ◌++◌, codes}
use Rattle.std.specs.Fmt.{decimal}
use Rattle.xa_base.specs.declared.step.Outcome.{Outcome}
use Rattle.xa_base.specs.declared.step.Outcome.TheVariants.{Commit, Rollback}

-- how a job ended, in words
abbrev pub end_text : Outcome → List ℕ
end_text Commit = codes "committed"
end_text Rollback = codes "rolled-back"

-- the line of the job of a number
abbrev pub end_line : ℕ → Outcome → List ℕ
end_line number end = codes "job " ++ decimal number ++ codes " " ++ end_text end ++ codes "\n"

-- the lines of the jobs in order; the first has this number
abbrev pub lines_from : ℕ → List Outcome → List ℕ
lines_from number [] = []
lines_from number (end ∷ ends) = end_line number end ++ lines_from (number + 1) ends

-- the lines of all jobs, the first of which is job 1
abbrev pub end_lines : List Outcome → List ℕ
end_lines ends = lines_from 1 ends
