-- The states of the branches of which something was heard, as a map has them; any other branch is as it was before.
use Rattle.std.specs.Prelude.{◌≡◌, ◌≢◌, ◌&&◌, ℕ, nat_lt, true, if◌then◌else◌, unwrap_or, List, [], ◌∷◌, IsSome, Option, Some, None}
use Rattle.std.specs.Option.{option_and_then}
use Rattle.std.specs.BTreeMap.{BTreeMap, get}
use Rattle.xa_base.specs.Branch.{branch_cmp, branch_eq, branch_of_xid}
use Rattle.xa_base.specs.Call.{xid_in}
use Rattle.xa_base.specs.Xid.{Xid}
use Rattle.xa_base.specs.declared.answer.Answer.{Answer}
use Rattle.xa_base.specs.declared.answer.Answer.TheVariants.{Page, Ret}
use Rattle.xa_base.specs.declared.call.Call.{Call}
use Rattle.xa_model.specs.Facts.{fits}
use Rattle.xa_model.specs.Replies.History.{name_of}
use Rattle.xa_model.specs.Trace.{Branch, Line, Name, Name.Foreign, Name.Ours, line_eq, line_of}
use Rattle.xa_monitor.specs.Rows.{break_row, found_states, is_some_state, page_row, unstarted_states}
use Rattle.xa_monitor.specs.declared.states.States.{States}

-- ** the states of a branch

-- those of a branch of which nothing was heard: one of an older incarnation may be found
abbrev pub states_before : (incarnation : ℕ) → Branch → States
states_before i b = if fits b && nat_lt b.gtrid.incarnation i then found_states else unstarted_states

-- those of any
abbrev pub states_at : (incarnation : ℕ) → BTreeMap Branch States → Branch → States
states_at i m b = unwrap_or (get branch_cmp m b) (states_before i b)

-- the branch of this manager that a call names, if it names one
abbrev pub branch_in_call : Call Xid → Option Branch
branch_in_call call = option_and_then branch_of_xid (xid_in call)

-- ** a line that breaks

abbrev pub off_line_at : Line → Branch → States → States
off_line_at l b s = if line_eq l (line_of b) then break_row s else s

-- ** a page

-- the branch may be in doubt at the resource manager, if the name is a branch
abbrev pub IsListable : (rm : ℕ) → (Branch → States) → Name → Type 0
IsListable rm states (Ours b) = (b.rm ≡ rm) × (is_some_state (page_row (states b)) ≡ true)
IsListable rm states (Foreign x) = Unit

abbrev pub AreListable : (rm : ℕ) → (Branch → States) → List Xid → Type 0
AreListable rm states [] = Unit
AreListable rm states (x ∷ xs) = IsListable rm states (name_of x) × AreListable rm states xs

-- there is an entry for the branch
abbrev pub HasEntry : BTreeMap Branch States → Branch → Type 0
HasEntry m b = IsSome (get branch_cmp m b)

-- there is one, if the name is a branch
abbrev pub HasRoom : BTreeMap Branch States → Name → Type 0
HasRoom m (Ours b) = HasEntry m b
HasRoom m (Foreign x) = Unit

abbrev pub HasRoomForAll : BTreeMap Branch States → List Xid → Type 0
HasRoomForAll m [] = Unit
HasRoomForAll m (x ∷ xs) = HasRoom m (name_of x) × HasRoomForAll m xs

-- no entry says only what was known before anything was heard
abbrev pub HasNoRoom : (incarnation : ℕ) → BTreeMap Branch States → Type 0
HasNoRoom i m = (b : Branch) → HasEntry m b → states_at i m b ≢ states_before i b

-- what there was an entry for, there still is
abbrev pub HasKeptEntries : (old new : BTreeMap Branch States) → Type 0
HasKeptEntries old new = (q : Branch) → HasEntry old q → HasEntry new q

-- there is an entry for the branch that a call names, if it names one
abbrev pub HasRoomIf : BTreeMap Branch States → Option Branch → Type 0
HasRoomIf m (Some b) = HasEntry m b
HasRoomIf m None = Unit

-- there is an entry for each branch that such an answer to the call is of
abbrev pub HasRoomForAnswer : BTreeMap Branch States → Call Xid → Answer Xid → Type 0
HasRoomForAnswer m call (Ret code) = HasRoomIf m (branch_in_call call)
HasRoomForAnswer m call (Page xids) = HasRoomForAll m xids

-- the states of a branch once a page listed the name, and these
abbrev pub listed : Name → Branch → States → States
listed (Ours b) q s = if branch_eq b q then page_row s else s
listed (Foreign x) q s = s

abbrev pub listed_by : List Xid → Branch → States → States
listed_by [] q s = s
listed_by (x ∷ xs) q s = listed_by xs q (listed (name_of x) q s)
