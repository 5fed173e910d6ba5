-- Which refusal a history forces on a step: the table of refusals, read off the history. And the order of the refusals.
use Rattle.std.specs.Prelude.{ℕ, List, [], ◌∷◌, Bool, false, if◌then◌else◌, Option, Some, None, nat_eq, nat_lt}
use Rattle.xa_base.specs.Refusal.{refusal_number}
use Rattle.xa_model.specs.Facts.{origin}
use Rattle.xa_model.specs.Replies.Guards.{Guard, guards, is_there, refusal_of}
use Rattle.xa_model.specs.Replies.Steps.{Refusal, Step}
use Rattle.xa_model.specs.Replies.View.{lines_of, view_of}
use Rattle.xa_model.specs.Trace.{Trace}

-- the refusal that the history forces, if there is one
abbrev pub must_refuse : Trace → Step → Option Refusal
must_refuse tr s = refusal_of (view_of tr) (lines_of tr) s

-- whether the system has the thread, and the resource manager
abbrev pub has_thread : Trace → (thread : ℕ) → Bool
has_thread tr t = nat_lt t (origin tr).threads

abbrev pub has_rm : Trace → (rm : ℕ) → Bool
has_rm tr r = nat_lt r (origin tr).rms

-- ** the order of the refusals

-- whether a refusal is among these guards, and applies
abbrev pub is_among : Refusal → List Guard → Bool
is_among n [] = false
is_among n (g ∷ gs) = if nat_eq (refusal_number g.0) (refusal_number n) then g.1 else is_among n gs

-- whether a refusal applies to a step
abbrev pub applies : Trace → Step → Refusal → Bool
applies tr s n = is_among n (guards (view_of tr) (lines_of tr) s)

-- the refusals that a history forces, by their numbers: all but LogFault and Memory
abbrev pub rules : List Refusal
rules =
    Refusal.ManagerDown ∷ Refusal.RmDown ∷ Refusal.NotOpen ∷ Refusal.Closed ∷ Refusal.UnknownTransaction ∷ Refusal.WrongThread
    ∷ Refusal.AlreadyStarted ∷ Refusal.Decided ∷ Refusal.NotDecided ∷ Refusal.Votes ∷ Refusal.Busy ∷ Refusal.Full ∷ Refusal.Script
    ∷ Refusal.Limit ∷ []

-- the first of a list that applies
abbrev pub first_of : (Refusal → Bool) → List Refusal → Option Refusal
first_of test [] = None
first_of test (n ∷ ns) = if test n then Some n else first_of test ns

-- of the refusals that apply the one with the lowest number
abbrev pub refused_in_order : Trace → Step → Option Refusal
refused_in_order tr s = if is_there (view_of tr) s then first_of (applies tr s) rules else Some Refusal.Limit
