-- Processes of the manager, one for each of several scenario files: what they do over the same
-- resource managers and the same log, and what is printed of them.
use Rattle.std.specs.Prelude.{◌≡◌, ◌<◌, ◌↔◌, ◌⊎◌, ℕ, ◌+◌, Bool, true, List, [], ◌∷◌, ◌++◌, length, codes, All, Contains, Option, None, Some}
use Rattle.std.specs.Fmt.{decimal}
use Rattle.std.specs.Io.KnownBytes.{Appends, Keeps}
use Rattle.std.specs.List.Sorted.{IsStrictlySortedBy}
use Rattle.std.specs.Map.{keys_of}
use Rattle.xa_base.specs.Branch.{IsBranch, xid_of_branch}
use Rattle.xa_base.specs.Xid.{Xid, xid_cmp}
use Rattle.xa_base.specs.declared.branch.Branch.{Branch}
use Rattle.xa_base.specs.declared.branch.Gtrid.{Gtrid}
use Rattle.xa_base.specs.declared.reply.Event.{Event}
use Rattle.xa_base.specs.declared.state.Fate.{Fate}
use Rattle.xa_files.specs.Fates.{fate_lines}
use Rattle.xa_files.specs.Outputs.{AppendsBeginning}
use Rattle.xa_log.specs.Contract.{Honestly, Moment}
use Rattle.xa_log.specs.declared.decision_log.DecisionLog as DecisionLog
use Rattle.xa_model.specs.Facts.{fate, started}
use Rattle.xa_model.specs.Promises.Headline.{Headline, HeadlineSince}
use Rattle.xa_model.specs.Promises.Processes.{Resumes, joined, resumed}
use Rattle.xa_model.specs.Protocol.{AllRight, RightOrigin}
use Rattle.xa_model.specs.Replies.History.{AreAllowed, history}
use Rattle.xa_model.specs.Trace.{Origin, Trace}
use Rattle.xa_scenario.specs.LogKeeping.{CannotGoOn, KeepsLog}
use Rattle.xa_scenario.specs.Plays.{IsPlay, PerformsSteps, gtrids_begun}
use Rattle.xa_scenario.specs.Replies.{trace_lines}
use Rattle.xa_scenario.specs.Runs.{IsReportOf, IsStartOf, StartsOverLog, shown}
use Rattle.xa_scenario_file.specs.Scenarios.{Plan}
use Rattle.xa_scenario.specs.declared.processes.Process.{Process as Played}
use Rattle.xa_tm.specs.StartFaults.{IsToBlame}
use Rattle.xa_system.specs.SystemView.{HoldsItsTrace, MayRestart, Observes, SystemView, origin_in}
use Rattle.xa_tm.specs.Slots.{log_held}

-- ** one process

-- what became of a process: where it started, its events, what the names of all files so far stand
-- for, the branches whose xa_start was accepted before it, and the log that it leaves
pub record Process (L : Type 0) : Type 0 where
  pub origin : Origin
  pub events : List Event
  pub gtrids : List Gtrid
  pub names : List Xid
  pub log : Option L

-- the branches whose xa_start was accepted in a history, each once and in the order of their
-- identifiers
pub record AreStarted (tr : Trace) (own : List Xid) : Type 0 where
  pub in_order : IsStrictlySortedBy xid_cmp own
  pub listed : (x : Xid) → Contains own x ↔ ((b : Branch) × (started tr b ≡ true) × (x ≡ xid_of_branch b))

-- these are after those of the earlier processes
pub record AddsStarted (tr : Trace) (old new : List Xid) : Type 0 where
  pub own : List Xid
  pub started : AreStarted tr own
  pub adds : new ≡ old ++ own

-- the entries were played in turn: each name stands for what its begin was answered, here or in an
-- earlier process
abbrev pub Plays : Plan → (old new : List Gtrid) → (before after : List Event) → Type 0
Plays plan old new before after =
    PerformsSteps (λ steps. IsPlay old plan.entries steps × (new ≡ old ++ gtrids_begun steps)) before after

-- the line in front of the trace of a process: its number, if it is not the first
abbrev pub heading : Option ℕ → List ℕ
heading None = []
heading (Some number) = codes "process " ++ decimal number ++ codes "\n"

-- what became of the branch of an identifier, if it is one of the process's threads and resource
-- managers: as its resource manager has it in the end
abbrev pub IsFateOf : Origin → List Event → Xid × Fate → Type 0
IsFateOf o events line = (b : Branch) → IsBranch b → b.thread < o.threads → b.rm < o.rms → line.0 ≡ xid_of_branch b
    → line.1 ≡ fate (history o events) b

-- what became of these branches in the end
pub record AreFates (o : Origin) (events : List Event) (names : List Xid) (fates : List (Xid × Fate)) : Type 0 where
  pub listed : keys_of fates ≡ names
  pub each : All (IsFateOf o events) fates

-- The text goes on with what became of these branches in the end, and then with the report of the
-- process.
pub record AddsFates (o : Origin) (events : List Event) (names : List Xid) (text whole : List ℕ) : Type 0 where
  pub earlier : List (Xid × Fate)
  pub own : List (Xid × Fate)
  pub told : AreFates o events names earlier
  pub report : IsReportOf o events own
  pub spelled : whole ≡ text ++ fate_lines earlier ++ fate_lines own

-- The entries were played at a system that had just started, and it is where its history leaves it,
-- of which the headline holds.
pub record HasPlayed {R L : Type 0} (see : Observes R L) (plan : Plan) (old_gtrids gtrids : List Gtrid) (old new : SystemView R L) : Type 0 where
  pub played : Plays plan old_gtrids gtrids old.events new.events
  pub start : origin_in see.look new ≡ origin_in see.look old
  pub log : KeepsLog see old new
  pub holds : HoldsItsTrace see new
  pub headline : RightOrigin (origin_in see.look new) → Headline (origin_in see.look new) new.events
  pub resumed : (past : Trace) → AllRight past → Resumes past (origin_in see.look new)
      → HeadlineSince (resumed past (origin_in see.look new)) new.events

module _ {L : Type 0} (moment : L → Moment) where
  -- A process plays a plan over this log. Its system is as large as the plan says. What its log
  -- rests on was honest as it started if that is so of the log that it leaves, which is in order if
  -- this one is.
  pub record IsProcess (log : L) (gtrids : List Gtrid) (plan : Plan) (p : Process L) : Type 0 where
    pub over : StartsOverLog moment log p.origin
    pub threads : p.origin.threads ≡ plan.threads
    pub rms : p.origin.rms ≡ plan.rms
    pub played : Plays plan gtrids p.gtrids [] p.events
    pub allowed : AreAllowed p.origin p.events
    pub order : (left : L) → p.log ≡ Some left → (moment log).is_in_order → (moment left).is_in_order
    pub honest : (left : L) → p.log ≡ Some left → (moment left).is_honest → (moment over.left).is_honest

  -- the first one: no branch ever was at its resource managers
  pub record IsFirst (log : L) (plan : Plan) (p : Process L) : Type 0 where
    pub is : IsProcess log [] plan p
    pub names : p.names ≡ []
    pub start : IsStartOf plan p.origin
    pub right : RightOrigin p.origin
    pub headline : Headline p.origin p.events

  -- One after another, if the first of all has started over this log. It starts over the log that
  -- the one before it has left; and if the first log was in order, and what the logs rest on was
  -- honest until this start, it resumes the whole history of the earlier ones, so that the headline
  -- holds of what it does after that.
  pub record IsNext (log : L) (past : Trace) (before : Process L) (plan : Plan) (p : Process L) : Type 0 where
    pub found : L
    pub left : before.log ≡ Some found
    pub is : IsProcess found before.gtrids plan p
    pub listed : AddsStarted (history before.origin before.events) before.names p.names
    pub resumes : Honestly (moment log) (moment is.over.left) (Resumes past p.origin)
    pub headline : Honestly (moment log) (moment is.over.left) (HeadlineSince (resumed past p.origin) p.events)

  -- ** processes in turn

  -- The processes of these plans over a log, up to this last one: their whole history, each having
  -- resumed what was left before it, and the text of their traces.
  pub data AreProcesses (log : L) : List Plan → (whole : Trace) → (last : Process L) → (traces : List ℕ) → Type 0 where
    First :
        (plan : Plan) (p : Process L) → IsFirst log plan p
        → AreProcesses log (plan ∷ []) (history p.origin p.events) p (trace_lines 1 p.events)
    Next :
        (plans : List Plan) (past : Trace) (before : Process L) (traces : List ℕ) (plan : Plan) (p : Process L)
        → AreProcesses log plans past before traces → IsNext log past before plan p
        → AreProcesses log (plans ++ plan ∷ []) (joined past p.origin p.events) p
        (traces ++ (heading (Some (length plans + 1)) ++ trace_lines 1 p.events))

  -- ** what is printed

  -- the text of processes of these plans, up to this last one: their traces, if they are asked for,
  -- and then what became of the branches of all, as the last one has them in the end
  pub record AreTold (log : L) (plans : List Plan) (with_trace : Bool) (last : Process L) (text : List ℕ) : Type 0 where
    pub whole : Trace
    pub traces : List ℕ
    pub run : AreProcesses log plans whole last traces
    pub fates : AddsFates last.origin last.events last.names (shown with_trace traces) text

  -- it was written, and the last one left this log
  pub record PrintsProcesses (log : L) (plans : List Plan) (with_trace : Bool) (left : Option L) (old new : Option (List ℕ)) : Type 0 where
    pub last : Process L
    pub text : List ℕ
    pub told : AreTold log plans with_trace last text
    pub leaves : left ≡ last.log
    pub writes : Appends old new text

  -- a beginning of it was written
  pub record BeginsProcesses (log : L) (plans : List Plan) (with_trace : Bool) (old new : Option (List ℕ)) : Type 0 where
    pub last : Process L
    pub text : List ℕ
    pub told : AreTold log plans with_trace last text
    pub begins : AppendsBeginning old new text

  -- The first of the plans, but not all, were processes, and these are their traces, if they are
  -- asked for.
  pub record AreTraces (log : L) (plans : List Plan) (with_trace : Bool) (traces : List ℕ) : Type 0 where
    pub first : List Plan
    pub next : Plan
    pub later : List Plan
    pub are : first ++ next ∷ later ≡ plans
    pub whole : Trace
    pub last : Process L
    pub text : List ℕ
    pub run : AreProcesses log first whole last text
    pub spelled : traces ≡ shown with_trace text

  -- Nothing was written, or exactly the traces of the first of them.
  abbrev pub StopsBetween : (log : L) → List Plan → (with_trace : Bool) → (old new : Option (List ℕ)) → Type 0
  StopsBetween log plans with_trace old new =
      Keeps old new ⊎ ((traces : List ℕ) × AreTraces log plans with_trace traces × Appends old new traces)

  -- A beginning of these was written, or one of all that is to be printed.
  abbrev pub StopsAnywhere : (log : L) → List Plan → (with_trace : Bool) → (old new : Option (List ℕ)) → Type 0
  StopsAnywhere log plans with_trace old new =
      ((traces : List ℕ) × AreTraces log plans with_trace traces × AppendsBeginning old new traces)
      ⊎ BeginsProcesses log plans with_trace old new

-- ** a system as a process

module _ {R L : Type 0} (see : Observes R L) (log : L) where
  -- a process without where it lies in memory
  abbrev pub process_of : Played R L → Process L
  process_of p = record {
    origin = origin_in see.look p.system;
    events = p.system.events;
    gtrids = p.gtrids.items;
    names = p.names.items;
    log = log_held p.system.log;
  }

  -- It is the last of processes of these plans.
  pub record IsLast (plans : List Plan) (p : Played R L) (traces : List ℕ) : Type 0 where
    pub whole : Trace
    pub are : AreProcesses see.moment log plans whole (process_of p) traces
    pub order : (see.moment log).is_in_order → (see.moment p.system.handed).is_in_order
    pub near : Honestly (see.moment log) (see.place p.system.log) (MayRestart see p.system)

  -- Some of these plans were played, but not all, and none can go on from the last process of
  -- those.
  pub record StopsBehind (logs : DecisionLog.Ghosts L) (plans : List Plan) : Type 0 where
    pub first : List Plan
    pub next : Plan
    pub later : List Plan
    pub are : first ++ next ∷ later ≡ plans
    pub process : Played R L
    pub traces : List ℕ
    pub last : IsLast first process traces
    pub stops : CannotGoOn see.look logs process.system

  -- the log keeps the processes of these plans from being played: it is to blame at the first, or
  -- none can go on after some
  abbrev pub LogStops : DecisionLog.Ghosts L → List Plan → Type 0
  LogStops logs plans = IsToBlame logs log ⊎ StopsBehind logs plans
