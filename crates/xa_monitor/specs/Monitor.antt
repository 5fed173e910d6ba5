-- What a monitor knows of each branch, and when it follows what was seen.
use Rattle.std.specs.Prelude.{◌≡◌, true, Option, Some, None}
use Rattle.xa_base.specs.Call.{map_call}
use Rattle.xa_base.specs.StateTable.{State, state_of}
use Rattle.xa_base.specs.Xid.{Xid}
use Rattle.xa_base.specs.declared.call.Call.{Call as Waiting}
use Rattle.xa_base.specs.declared.state.Standing.{Standing}
use Rattle.xa_model.specs.Replies.History.{name_of}
use Rattle.xa_model.specs.Replies.Steps.{accepted}
use Rattle.xa_model.specs.Trace.{Answer, Branch, Call, Line, Origin}
use Rattle.xa_monitor.specs.Entries.{states_at}
use Rattle.xa_monitor.specs.Seen.{Seen, Seen.Answered, Seen.Lost}
use Rattle.xa_monitor.specs.Standings.{Explained, MayStand}
use Rattle.xa_monitor.specs.States.{LeadsInto, LeadsOnto, has}
use Rattle.xa_monitor.specs.declared.monitor.Monitor.{Monitor}
use Rattle.xa_monitor.specs.declared.states.States.{States}

-- ** what it knows

-- the states in which it says that a branch may be
abbrev pub states_of : Monitor → Branch → States
states_of m b = states_at m.incarnation m.branches b

-- two say the same of each branch
abbrev pub SaysTheSame : (old new : Monitor) → Type 0
SaysTheSame old new = (b : Branch) → states_of new b ≡ states_of old b

-- the branch is in some state
abbrev pub IsSomewhere : (Branch → States) → Branch → Type 0
IsSomewhere states b = (s : State) × (has (states b) s ≡ true)

-- these are, for each branch, exactly the states in which it may stand by all that was seen; and there is one
pub record AreStatesBy (o : Origin) (seen : Seen) (states : Branch → States) : Type 0 where
  pub into : (b : Branch) (f : Standing) → MayStand o seen b f → has (states b) (state_of f) ≡ true
  pub onto : (b : Branch) (s : State) → has (states b) s ≡ true → (f : Standing) × MayStand o seen b f × (state_of f ≡ s)
  pub some : (b : Branch) → IsSomewhere states b

-- the monitor has followed what was seen
abbrev pub Monitors : Origin → Seen → Monitor → Type 0
Monitors o seen m = AreStatesBy o seen (states_of m)

-- what the first has followed, the second has, and this answer more
abbrev pub HearsAnswer : Line → Call → Answer → (old new : Monitor) → Type 0
HearsAnswer l c a old new = (o : Origin) (seen : Seen) → Monitors o seen old → Monitors o (Answered seen l c a) new

-- the same, and the loss of this line more, with the call that waited first on it
abbrev pub Loses : Line → Option Call → (old new : Monitor) → Type 0
Loses l c old new = (o : Origin) (seen : Seen) → Monitors o seen old → Monitors o (Lost seen l c) new

-- ** what it is told

-- a call as a history knows it: one on a branch of this manager, or on none
abbrev pub known : Waiting Xid → Option Call
known call = accepted (map_call name_of call)

abbrev pub known_if : Option (Waiting Xid) → Option Call
known_if (Some call) = known call
known_if None = None

-- ** what explains an answer

-- the answer leads on from some standing in one of these states of the branch
pub record CanExplain (states : Branch → States) (l : Line) (c : Call) (a : Answer) (b : Branch) : Type 0 where
  pub from : Standing
  pub to : Standing
  pub among : has (states b) (state_of from) ≡ true
  pub leads : Explained l c a b from to

-- by what was seen the branch can stand nowhere
abbrev pub IsUnexplained : Origin → Seen → Branch → Type 0
IsUnexplained o seen b = (f : Standing) → MayStand o seen b f → ⊥

-- each branch that is in some state explains the answer
abbrev pub AllExplain : (Branch → States) → Line → Call → Answer → Type 0
AllExplain states l c a = (b : Branch) → IsSomewhere states b → CanExplain states l c a b

-- ** steps

-- the steps of each branch lead its states exactly into those
pub record LeadsExactly (before : Branch → States) (Step : Branch → Standing → Standing → Type 0) (after : Branch → States) : Type 0 where
  pub into : (b : Branch) → LeadsInto (before b) (Step b) (after b)
  pub onto : (b : Branch) → LeadsOnto (before b) (Step b) (after b)
