-- The answers on a line since it last broke. Lines are this manager's own.
use Rattle.std.specs.Prelude.{List, [], ◌∷◌, ◌++◌, length, if◌then◌else◌, Option, slice_get}
use Rattle.xa_model.specs.Facts.Manager.{breaks}
use Rattle.xa_model.specs.Trace.{Line, Call, Answer, Happening, Happening.Took, Happening.Heard, Trace, Trace.From, Trace.Then, line_eq}

-- what a happening adds to the calls taken on a line
abbrev pub new_taken : Happening → Line → List (Call × Answer)
new_taken (Took m c a) l = if line_eq m l then (c, a) ∷ [] else []
new_taken _ l = []

-- what it adds to the answers heard
abbrev pub new_heard : Happening → Line → List (Call × Answer)
new_heard (Heard m c a) l = if line_eq m l then (c, a) ∷ [] else []
new_heard _ l = []

-- the calls that the resource manager took, each with its answer
abbrev pub taken : Trace → Line → List (Call × Answer)
taken (From o) l = []
taken (Then tr e) l = if breaks tr e l then [] else taken tr l ++ new_taken e l

-- those whose answer the manager heard
abbrev pub heard : Trace → Line → List (Call × Answer)
heard (From o) l = []
heard (Then tr e) l = if breaks tr e l then [] else heard tr l ++ new_heard e l

-- the oldest answer that waits
abbrev pub next_answer : Trace → Line → Option (Call × Answer)
next_answer tr l = slice_get (taken tr l) (length (heard tr l))
