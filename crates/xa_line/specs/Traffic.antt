-- The traffic of a line since it was new or renewed: the calls to the resource manager, and the
-- answers back. Which calls a line takes is the model's rule, over what the line itself has seen.
use Rattle.xa_base.specs.declared.limits.TheConstants.{LINE_LIMIT}
use Rattle.std.specs.Prelude.{ℕ, ◌+◌, Bool, not, Option, Some, None, List, [], ◌∷◌, ◌++◌, length, nat_le, nat_lt, ◌≡◌, if◌then◌else◌}
use Rattle.std.specs.Option.{option_or}
use Rattle.xa_base.specs.declared.answer.Answer.{Answer}
use Rattle.xa_base.specs.Opening.{has_closed, has_opened, comes_unopened}
use Rattle.xa_base.specs.Xid.{Xid}
use Rattle.xa_base.specs.declared.call.Call.{Call}
use Rattle.xa_base.specs.declared.refusal.Refusal.{Refusal}
use Rattle.xa_base.specs.declared.refusal.Refusal.TheVariants.{NotOpen, Closed, Full}

-- ** one direction

-- what came out since the flow was new or renewed, and what still waits, each oldest first
pub record Flow (T : Type 0) : Type 0 where
  pub gone : List T
  pub waiting : List T

module _ {T : Type 0} where
  -- all that went in, oldest first
  abbrev pub all_of : Flow T → List T
  all_of f = f.gone ++ f.waiting

  -- nothing went in yet
  abbrev pub empty_flow : Flow T
  empty_flow = record { gone = []; waiting = [] }

  -- one item more waits, last
  abbrev pub with_one_more : Flow T → T → Flow T
  with_one_more f x = record { gone = f.gone; waiting = f.waiting ++ x ∷ [] }

  -- several items more wait, last
  abbrev pub with_more : Flow T → List T → Flow T
  with_more f xs = record { gone = f.gone; waiting = f.waiting ++ xs }

  -- the oldest waiting item came out
  pub record PassesOn (f : Flow T) (x : T) (g : Flow T) : Type 0 where
    pub oldest : f.waiting ≡ x ∷ g.waiting
    pub through : g.gone ≡ f.gone ++ x ∷ []

-- the places of a flow
abbrev pub places : ℕ
places = LINE_LIMIT

-- ** both directions

pub record Traffic : Type 0 where
  pub calls : Flow (Call Xid)
  pub answers : Flow (Call Xid × Answer Xid)

abbrev pub no_traffic : Traffic
no_traffic = record { calls = empty_flow; answers = empty_flow }

-- the calls that were issued, and those of them that were taken
abbrev pub calls_issued : Traffic → List (Call Xid)
calls_issued t = all_of t.calls

abbrev pub calls_taken : Traffic → List (Call Xid)
calls_taken t = t.calls.gone

-- the calls with their answers that were answered, and those of them that were heard
abbrev pub answered : Traffic → List (Call Xid × Answer Xid)
answered t = all_of t.answers

abbrev pub answers_heard : Traffic → List (Call Xid × Answer Xid)
answers_heard t = t.answers.gone

-- ** the refusal

-- a line holds 64 calls
abbrev pub is_full : Traffic → Bool
is_full t = nat_le places (length t.calls.waiting)

-- why a call may not follow those issued, the first reason that applies
abbrev pub barred : (issued : List (Call Xid)) → Call Xid → Option Refusal
barred calls call = if comes_unopened calls call then Some NotOpen else (if has_closed calls then Some Closed else None)

-- why no other call than xa_open may follow those issued, the first reason that applies
abbrev pub opening_refusal : (issued : List (Call Xid)) → Option Refusal
opening_refusal calls = if not (has_opened calls) then Some NotOpen else (if has_closed calls then Some Closed else None)

-- why so many calls more may not wait
abbrev pub room_refusal : Traffic → (calls : ℕ) → Option Refusal
room_refusal t n = if nat_lt places (length t.calls.waiting + n) then Some Full else None

-- why a line refuses a call, the first reason that applies
abbrev pub refusal : Traffic → Call Xid → Option Refusal
refusal t call = option_or (barred (calls_issued t) call) (if is_full t then Some Full else None)
