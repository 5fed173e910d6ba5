-- The calls on a line since it last broke, those of recovery among them (XA, section 2.3, Transaction Completion and Recovery, and
-- section 3.2, Opening and Closing Resource Managers).
use Rattle.std.specs.Prelude.{ℕ, ◌-◌, List, [], ◌∷◌, ◌++◌, length, Bool, false, not, ◌&&◌, ◌||◌, if◌then◌else◌, Option, slice_get}
use Rattle.xa_base.specs.Branch.{branch_eq}
use Rattle.xa_base.specs.declared.call.Call.TheVariants as Calls
use Rattle.xa_model.specs.Facts.LineAnswers.{taken, heard}
use Rattle.xa_model.specs.Facts.Decisions.{live}
use Rattle.xa_model.specs.Facts.HeardAnswers.{page}
use Rattle.xa_model.specs.Facts.Log.{has_row, recorded}
use Rattle.xa_model.specs.Facts.Manager.{breaks}
use Rattle.xa_base.specs.Opening.{has_opened, has_closed}
use Rattle.xa_base.specs.StateTable.{on}
use Rattle.xa_model.specs.Trace.{Branch, Line, Name, Name.Ours, Name.Foreign, Kind, Kind.Commit, Kind.Rollback, Kind.Forget, Call, Happening, Happening.Issued, Happening.Resolved, Happening.ResolvedOpen, Trace, Trace.From, Trace.Then, line, line_of, line_eq}

-- ** recovery

-- how recovery ends a branch: no row means rollback
abbrev pub resolving_kind : Trace → Branch → Kind
resolving_kind tr b = if recorded tr b then Forget else if has_row tr b.gtrid then Commit else Rollback

-- the calls that end the branches of a page, but for those of live transactions and of other managers
abbrev pub resolving_calls : Trace → List Name → List Call
resolving_calls tr [] = []
resolving_calls tr (Ours b ∷ ns) = if live tr b.gtrid then resolving_calls tr ns else on (resolving_kind tr b) b ∷ resolving_calls tr ns
resolving_calls tr (Foreign x ∷ ns) = resolving_calls tr ns

-- ** lines

-- what a happening adds to a line. A recovery that may decide makes its calls as if its decisions were made before it
abbrev pub new_calls : Trace → Happening → Line → List Call
new_calls tr (Issued m c) l = if line_eq m l then c ∷ [] else []
new_calls tr (ResolvedOpen r) l = if line_eq (line 0 r) l then resolving_calls (Then tr (ResolvedOpen r)) (page tr r) else []
new_calls tr (Resolved r) l = if line_eq (line 0 r) l then resolving_calls tr (page tr r) else []
new_calls tr _ l = []

-- the calls that were accepted
abbrev pub issued : Trace → Line → List Call
issued (From o) l = []
issued (Then tr e) l = if breaks tr e l then [] else issued tr l ++ new_calls tr e l

-- the oldest call that waits
abbrev pub next_call : Trace → Line → Option Call
next_call tr l = slice_get (issued tr l) (length (taken tr l))

-- ** open and closed lines

-- an xa_open was issued
abbrev pub is_open : Trace → Line → Bool
is_open tr l = has_opened (issued tr l)

-- an xa_close was issued
abbrev pub is_closed : Trace → Line → Bool
is_closed tr l = has_closed (issued tr l)

-- ** what waits

-- how many calls wait on a line
abbrev pub waiting : Trace → Line → ℕ
waiting tr l = length (issued tr l) - length (taken tr l)

-- how many answers wait on a line
abbrev pub unheard : Trace → Line → ℕ
unheard tr l = length (taken tr l) - length (heard tr l)

-- the branch's xa_start was accepted on a line that has not been broken since
abbrev pub on_line : Trace → Branch → Bool
on_line (From o) b = false
on_line (Then tr (Issued l (Calls.Start c join))) b = branch_eq c b || on_line tr b
on_line (Then tr e) b = not (breaks tr e (line_of b)) && on_line tr b
