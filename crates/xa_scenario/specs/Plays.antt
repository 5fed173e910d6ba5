-- What a run of a scenario does: which steps its entries make, and which events these give.
use Rattle.std.specs.Prelude.{◌≡◌, ℕ, Bool, true, false, ◌||◌, nat_lt, if◌then◌else◌, MatchBool, List, [], ◌∷◌, ◌++◌, length, map, filter_map, slice_get, unwrap_or, Option, Some, None}
use Rattle.std.specs.Option.{option_to_list}
use Rattle.xa_base.specs.Branch.{xid_of_branch}
use Rattle.xa_base.specs.Call.{map_call}
use Rattle.xa_base.specs.Xid.{Xid}
use Rattle.xa_base.specs.declared.branch.Gtrid.{Gtrid}
use Rattle.xa_base.specs.declared.call.Call.{Call}
use Rattle.xa_base.specs.declared.refusal.Refusal.TheVariants as refusals
use Rattle.xa_base.specs.declared.reply.Event.{Event}
use Rattle.xa_base.specs.declared.reply.Reply.{Reply}
use Rattle.xa_base.specs.declared.reply.Reply.TheVariants as replies
use Rattle.xa_base.specs.declared.step.Step.{Step}
use Rattle.xa_base.specs.declared.step.Step.TheVariants as steps
use Rattle.xa_scenario_file.specs.declared.entry.BranchEntry.{BranchEntry}
use Rattle.xa_scenario_file.specs.declared.entry.Ending.{Ending}
use Rattle.xa_scenario_file.specs.declared.entry.Ending.TheVariants as endings
use Rattle.xa_scenario_file.specs.declared.entry.Entry.{Entry}
use Rattle.xa_scenario_file.specs.declared.entry.Entry.TheVariants as entries
use Rattle.xa_scenario_file.specs.declared.entry.Script.{Script}
use Rattle.xa_scenario_file.specs.declared.entry.Script.TheVariants as scripts
use Rattle.xa_system.specs.declared.system.TheConstants.{EVENT_LIMIT}

-- ** steps with their replies, in turn

-- a step that finds the trace full is refused for that
abbrev pub IsAnswered : List Event → Reply Xid → Type 0
IsAnswered trace reply =
    MatchBool (nat_lt (length trace) EVENT_LIMIT) (Unit {0}) (reply ≡ replies.Refused refusals.Limit)

-- the trace after a step: it holds no more events, once it is full
abbrev pub events_after : List Event → Event → List Event
events_after trace event = if nat_lt (length trace) EVENT_LIMIT then trace ++ event ∷ [] else trace

abbrev pub AreAnswered : List Event → List Event → Type 0
AreAnswered trace [] = Unit {0}
AreAnswered trace (event ∷ events) = IsAnswered trace event.reply × AreAnswered (events_after trace event) events

-- the trace after steps in turn
abbrev pub trace_after : List Event → List Event → List Event
trace_after trace [] = trace
trace_after trace (event ∷ events) = trace_after (events_after trace event) events

-- some steps and their replies, with P, lead from one trace to another
pub record PerformsSteps (P : List Event → Type 0) (old new : List Event) : Type 0 where
  pub events : List Event
  pub wanted : P events
  pub answered : AreAnswered old events
  pub leads : trace_after old events ≡ new

-- ** transactions

-- no transaction has these numbers
abbrev pub no_gtrid : Gtrid
no_gtrid = record { incarnation = 0; sequence = 0 }

-- the transaction that a begin is answered with; none, if it is refused
abbrev pub gtrid_answered : Reply Xid → Gtrid
gtrid_answered (replies.Begun gtrid) = gtrid
gtrid_answered _ = no_gtrid

-- whether the step begins a transaction
abbrev pub begins_one : Step Xid → Bool
begins_one (steps.Begin thread) = true
begins_one _ = false

-- what a name stands for whose begin is this event, if it is one
abbrev pub gtrid_begun : Event → Option Gtrid
gtrid_begun event = if begins_one event.step then Some (gtrid_answered event.reply) else None

-- what the names of the begins among these events stand for
abbrev pub gtrids_begun : List Event → List Gtrid
gtrids_begun = filter_map gtrid_begun

-- the transaction of the begin at a place
abbrev pub gtrid_at : List Gtrid → ℕ → Gtrid
gtrid_at gtrids begin = unwrap_or (slice_get gtrids begin) no_gtrid

-- the identifier of a branch at a resource manager
abbrev pub xid_at : List Gtrid → (rm : ℕ) → BranchEntry → Xid
xid_at gtrids rm branch =
    xid_of_branch (record { gtrid = gtrid_at gtrids branch.begin; thread = branch.thread; rm = rm })

-- ** what an entry does

-- a thread issues a call
abbrev pub issue_of : List Gtrid → (thread rm : ℕ) → Call BranchEntry → Step Xid
issue_of gtrids thread rm call = steps.Issue thread rm (map_call (xid_at gtrids rm) call)

-- a resource manager is told what to do with a branch
abbrev pub script_step : (rm : ℕ) → Xid → Script → Step Xid
script_step rm xid (scripts.Vote vote) = steps.Vote rm xid vote
script_step rm xid (scripts.Busy times) = steps.Busy rm xid times
script_step rm xid (scripts.Heuristic how) = steps.Heuristic rm xid how

-- a transaction is decided, claimed or ended
abbrev pub ending_step : Gtrid → Ending → Step Xid
ending_step gtrid (endings.Decide outcome) = steps.Decide gtrid outcome
ending_step gtrid endings.Done = steps.Done gtrid
ending_step gtrid endings.Claim = steps.Claim gtrid
ending_step gtrid endings.Settle = steps.Settle gtrid
ending_step gtrid endings.Abandon = steps.Abandon gtrid

-- the one step of an entry; none of a `call` and of a `drain`, which make several
abbrev pub step_of_entry : List Gtrid → Entry → Option (Step Xid)
step_of_entry gtrids (entries.Begin thread) = Some (steps.Begin thread)
step_of_entry gtrids (entries.Issue thread rm call) = Some (issue_of gtrids thread rm call)
step_of_entry gtrids (entries.Call thread rm call) = None
step_of_entry gtrids (entries.Take thread rm) = Some (steps.Take thread rm)
step_of_entry gtrids (entries.Hear thread rm) = Some (steps.Hear thread rm)
step_of_entry gtrids (entries.Drain thread rm) = None
step_of_entry gtrids (entries.Script rm branch script) = Some (script_step rm (xid_at gtrids rm branch) script)
step_of_entry gtrids (entries.End begin ending) = Some (ending_step (gtrid_at gtrids begin) ending)
step_of_entry gtrids (entries.Recover rm count start_scan end_scan) = Some (steps.Recover rm count start_scan end_scan)
step_of_entry gtrids (entries.Resolve rm) = Some (steps.Resolve rm)
step_of_entry gtrids (entries.Crash part) = Some (steps.Crash part)
step_of_entry gtrids (entries.Restart side) = Some (steps.Restart side)
step_of_entry gtrids (entries.ResolveOpen rm) = Some (steps.ResolveOpen rm)

-- the reply took or heard something
abbrev pub moves : Reply Xid → Bool
moves (replies.Took call answer) = true
moves (replies.Heard call answer) = true
moves _ = false

-- the events are of these steps
abbrev pub HaveSteps : List (Step Xid) → List Event → Type 0
HaveSteps steps events = map (λ event. event.step) events ≡ steps

-- pairs of a take and a hear, up to and with the first pair that moves nothing
abbrev pub IsDrain : (thread rm : ℕ) → List Event → Type 0
IsDrain thread rm [] = ⊥
IsDrain thread rm (take ∷ []) = ⊥
IsDrain thread rm (take ∷ hear ∷ others) =
    (take.step ≡ steps.Take thread rm) × (hear.step ≡ steps.Hear thread rm)
    × MatchBool (moves take.reply || moves hear.reply) (IsDrain thread rm others) (others ≡ [])

-- the events are those of the entry. A `call` is issued, taken and heard, whatever each is answered
abbrev pub MakesEvents : List Gtrid → Entry → List Event → Type 0
MakesEvents gtrids (entries.Call thread rm call) events =
    HaveSteps (issue_of gtrids thread rm call ∷ steps.Take thread rm ∷ steps.Hear thread rm ∷ []) events
MakesEvents gtrids (entries.Drain thread rm) events = IsDrain thread rm events
MakesEvents gtrids entry events = HaveSteps (option_to_list (step_of_entry gtrids entry)) events

-- the events are those of the entries in turn, each name standing for what its begin was answered
abbrev pub IsPlay : List Gtrid → List Entry → List Event → Type 0
IsPlay gtrids [] events = events ≡ []
IsPlay gtrids (entry ∷ entries) events =
    (here : List Event) × ((others : List Event) × (events ≡ here ++ others)
    × MakesEvents gtrids entry here × IsPlay (gtrids ++ gtrids_begun here) entries others)
