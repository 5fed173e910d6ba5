-- How far a transaction has come, in steps: each branch makes four, and the transaction one, by its decision. Each move of its thread that isn't
-- refused makes one at least, and none is ever taken back. So a transaction with n branches is over after 4 n + 1 such moves at most.
use Rattle.std.specs.Prelude.{◌≡◌, ◌≤◌, ◌<◌, ◌+◌, ◌⊎◌, ◌==◌, ◌&&◌, ℕ, Bool, true, false, not, List, Option, Some, None, [], length, get_or, slice_get, if◌then◌else◌}
use Rattle.std.specs.List.{list_all, list_any, sum_by}
use Rattle.xa_base.specs.declared.branch.Gtrid.{Gtrid}
use Rattle.xa_conduct.specs.Over.{is_all_answered}
use Rattle.xa_conduct.specs.Places.{is_asked, is_working, steps_at}
use Rattle.xa_conduct.specs.declared.notes.Reply.{Reply}
use Rattle.xa_conduct.specs.declared.notes.Reply.TheVariants as replies
use Rattle.xa_conduct.specs.declared.part.Part.{Part}
use Rattle.xa_conduct.specs.declared.transaction.Standing.{Standing}
use Rattle.xa_conduct.specs.declared.transaction.Standing.TheVariants.{Committed, Idle, Open, Ready, RolledBack, Unknown}
use Rattle.xa_conduct.specs.declared.transaction.Transaction.{Transaction}

-- ** steps

-- one, once its driver has said what the decision wants
abbrev pub steps_to : Standing → ℕ
steps_to Idle = 0
steps_to Open = 0
steps_to Ready = 1
steps_to Committed = 1
steps_to (RolledBack why) = 1
steps_to Unknown = 1

abbrev pub steps_of : Part → ℕ
steps_of part = steps_at part.place

-- by all branches
abbrev pub branch_steps : List Part → ℕ
branch_steps parts = sum_by steps_of parts

abbrev pub steps_made : Transaction → ℕ
steps_made t = steps_to t.standing + branch_steps t.parts.items

-- as the transaction went on, it made so many steps at least
pub record Steps (n : ℕ) (t u : Transaction) : Type 0 where
  pub same : u.gtrid ≡ t.gtrid
  pub made : n + steps_made t ≤ steps_made u

-- none of its branches began
abbrev pub IsBegun : Gtrid → Transaction → Type 0
IsBegun g t = (t.gtrid ≡ g) × (t.standing ≡ Open) × (t.parts.items ≡ [])

-- ** branches

-- it is the one at this resource manager
abbrev pub is_part_at : (rm : ℕ) → Part → Bool
is_part_at rm part = part.rm == rm

abbrev pub is_new_at : List Part → (rm : ℕ) → Bool
is_new_at parts rm = not (list_any (is_part_at rm) parts)

-- the branch at this place was told a call
abbrev pub is_asked_of : Option Part → Bool
is_asked_of None = false
is_asked_of (Some part) = is_asked part.place

abbrev pub is_asked_in : List Part → ℕ → Bool
is_asked_in parts at = is_asked_of (slice_get parts at)

-- work goes on at each of its branches
abbrev pub are_working : List Part → Bool
are_working parts = list_all (λ (part : Part). is_working part.place) parts

-- ** the moves of a line

-- how many of these replies are to moves of the thread that were taken
abbrev pub takes_move : (thread : ℕ) → Reply → ℕ
takes_move i (replies.Thread t) = if i == t then 1 else 0
takes_move i _ = 0

abbrev pub moves_taken : (thread : ℕ) → List Reply → ℕ
moves_taken i told = sum_by (takes_move i) told

-- its first transaction began
abbrev pub is_start : (thread : ℕ) → Reply → Bool
is_start i (replies.Started t g) = i == t
is_start i _ = false

-- the transaction of each thread has made a step for each of its moves that was taken
pub record AllStep (told : List Reply) (ts us : List Transaction) : Type 0 where
  pub count : length us ≡ length ts
  pub each : (i : ℕ) (d : Transaction) → i < length ts → list_any (is_start i) told ≡ false → Steps (moves_taken i told) (get_or ts i d) (get_or us i d)
