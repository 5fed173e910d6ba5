-- What it means that what was seen goes on from a history: behind that, some history of it is right.
use Rattle.std.specs.Prelude.{◌≡◌}
use Rattle.xa_base.specs.StateTable.{state_of}
use Rattle.xa_base.specs.declared.state.Standing.{Standing}
use Rattle.xa_model.specs.Facts.{held_of, standing}
use Rattle.xa_model.specs.Promises.Processes.{gone, resumed}
use Rattle.xa_model.specs.Protocol.{AllRight}
use Rattle.xa_model.specs.Trace.{Branch, Origin, Trace, Trace.From, Trace.Then}
use Rattle.xa_monitor.specs.Seen.{IsHistory, Seen}

-- a history, and then what happened in another since its start
abbrev pub continued_by : Trace → Trace → Trace
continued_by past (From o) = past
continued_by past (Then tr e) = Then (continued_by past tr) e

-- the start has the branch just as the past left it: it also knows how the branch ended, where it ended
abbrev pub IsKnownAsLeft : (past : Trace) → Origin → Branch → Type 0
IsKnownAsLeft past o b = (held_of o b).standing ≡ standing (gone past) b

-- a history of what was seen, right behind the past that its start resumes; it leaves each branch in the state in which it then stands, and
-- each branch that the start has just as the past left it, just there
pub record GoesOn (past : Trace) (o : Origin) (seen : Seen) (f : Branch → Standing) : Type 0 where
  pub history : Trace
  pub is_history : IsHistory o seen history
  pub right : AllRight (continued_by (resumed past o) history)
  pub states : (b : Branch) → state_of (standing (continued_by (resumed past o) history) b) ≡ state_of (f b)
  pub there : (b : Branch) → IsKnownAsLeft past o b → standing (continued_by (resumed past o) history) b ≡ f b
