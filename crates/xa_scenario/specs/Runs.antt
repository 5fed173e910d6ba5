-- What a run of a scenario file prints, and why it ends early.
use Rattle.std.specs.Prelude.{◌≡◌, ◌⊎◌, ◌↔◌, ℕ, Bool, if◌then◌else◌, List, [], ◌++◌, length, codes, Contains, Option, Ok, IsSomeAnd}
use Rattle.std.specs.Fmt.{decimal}
use Rattle.std.specs.Io.KnownBytes.{Appends}
use Rattle.std.specs.List.Sorted.{IsStrictlySortedBy}
use Rattle.std.specs.Map.{keys_of}
use Rattle.xa_model.specs.Promises.Headline.{Headline}
use Rattle.xa_base.specs.HeldBranch.{new_branch}
use Rattle.xa_base.specs.Scan.{Scan.NotOpen}
use Rattle.xa_log.specs.Contract.{Honestly, Moment}
use Rattle.xa_model.specs.Replies.History.{AreAllowed, history}
use Rattle.xa_model.specs.Trace.{Origin}
use Rattle.xa_base.specs.Xid.{Xid, xid_cmp}
use Rattle.xa_base.specs.declared.reply.Event.{Event}
use Rattle.xa_base.specs.declared.state.Fate.{Fate}
use Rattle.xa_files.specs.Fates.{fate_lines}
use Rattle.xa_files.specs.Outputs.{AppendsBeginning}
use Rattle.xa_files.specs.declared.fault.RunFault.{RunFault}
use Rattle.xa_files.specs.declared.fault.RunFault.TheVariants.{Log, Memory}
use Rattle.xa_scenario.specs.Plays.{IsPlay, PerformsSteps}
use Rattle.xa_scenario.specs.Replies.{trace_lines}
use Rattle.xa_scenario_file.specs.Scenarios.{Plan, scenario_of}
use Rattle.xa_system.specs.LogInHistory.{StartsOver}
use Rattle.xa_system.specs.Report.{IsReported}
use Rattle.xa_rm.specs.Look.{Look}

-- ** runs

-- a resource manager at which no branch ever was, nothing is in doubt and no scan is open
pub record IsNewRm {R : Type 0} (look : R → Look) (rm : R) : Type 0 where
  pub held : (x : Xid) → (look rm).held x ≡ new_branch
  pub in_doubt : (look rm).in_doubt ≡ []
  pub scans : (thread : ℕ) → (look rm).scan thread ≡ NotOpen

-- where a run of a scenario starts: a system as large as it says, with new resource managers
pub record IsStartOf (plan : Plan) (o : Origin) : Type 0 where
  pub threads : o.threads ≡ plan.threads
  pub rms : o.rms ≡ plan.rms
  pub unstarted : (r : ℕ) (x : Xid) → o.held r x ≡ new_branch
  pub in_doubt : (r : ℕ) → o.in_doubt r ≡ []
  pub scans : (r : ℕ) → o.scans r ≡ NotOpen

-- It starts over this log: with exactly the rows and the record that the log held, in its next
-- incarnation. That is so if the log was in order, and what it rests on was honest until the start,
-- which left it as `left`.
pub record StartsOverLog {L : Type 0} (moment : L → Moment) (log : L) (o : Origin) : Type 0 where
  pub left : L
  pub honest : (moment left).is_honest → (moment log).is_honest
  pub held : Honestly (moment log) (moment left) (IsSomeAnd (moment log).content (StartsOver o))

-- The events are those of the scenario's entries in turn, as far as there is room for them; each is
-- answered as the history before it demands, and so they are all that the headline says.
pub record IsRunOf (plan : Plan) (o : Origin) (events : List Event) : Type 0 where
  pub start : IsStartOf plan o
  pub played : PerformsSteps (IsPlay [] plan.entries) [] events
  pub allowed : AreAllowed o events
  pub headline : Headline o events

-- the branches with an accepted xa_start, each once and in the order of their identifiers, with
-- their fates
pub record IsReportOf (o : Origin) (events : List Event) (fates : List (Xid × Fate)) : Type 0 where
  pub in_order : IsStrictlySortedBy xid_cmp (keys_of fates)
  pub listed : (x : Xid) (f : Fate) → Contains fates (x, f) ↔ IsReported (history o events) x f

-- ** what is printed

-- a text, if it is asked for
abbrev pub shown : (with_trace : Bool) → List ℕ → List ℕ
shown with_trace text = if with_trace then text else []

-- the text of a run of the scenario from this start: its trace, if that is asked for, and then its
-- report
pub record IsTextOf (plan : Plan) (with_trace : Bool) (o : Origin) (text : List ℕ) : Type 0 where
  pub events : List Event
  pub fates : List (Xid × Fate)
  pub run : IsRunOf plan o events
  pub report : IsReportOf o events fates
  pub spelled : text ≡ shown with_trace (trace_lines 1 events) ++ fate_lines fates

module _ {L : Type 0} (moment : L → Moment) (log : L) where
  -- The text is a scenario, and this is what a run of it over this log prints.
  pub record IsPrinted (text : List ℕ) (with_trace : Bool) (printed : List ℕ) : Type 0 where
    pub plan : Plan
    pub origin : Origin
    pub reads : scenario_of text ≡ Ok plan
    pub over : StartsOverLog moment log origin
    pub run : IsTextOf plan with_trace origin printed

  -- that was written
  abbrev pub Prints : (text : List ℕ) (with_trace : Bool) (old new : Option (List ℕ)) → Type 0
  Prints text with_trace old new = (printed : List ℕ) × IsPrinted text with_trace printed × Appends old new printed

  -- a beginning of it was written
  abbrev pub Begins : (text : List ℕ) (with_trace : Bool) (old new : Option (List ℕ)) → Type 0
  Begins text with_trace old new = (printed : List ℕ) × IsPrinted text with_trace printed × AppendsBeginning old new printed

-- ** checks

-- the one line of a check
abbrev pub check_line : Plan → List ℕ
check_line plan =
    codes "ok " ++ decimal plan.threads ++ codes " " ++ decimal plan.rms ++ codes " " ++ decimal (length plan.entries)
    ++ codes "\n"

-- The text is a scenario, and its sizes were written.
pub record PrintsCheck (text : List ℕ) (old new : Option (List ℕ)) : Type 0 where
  pub plan : Plan
  pub reads : scenario_of text ≡ Ok plan
  pub writes : Appends old new (check_line plan)

-- The text is a scenario, and a beginning of that line was written.
pub record BeginsCheck (text : List ℕ) (old new : Option (List ℕ)) : Type 0 where
  pub plan : Plan
  pub reads : scenario_of text ≡ Ok plan
  pub begins : AppendsBeginning old new (check_line plan)

-- ** faults

-- a fault of a system that couldn't be started
abbrev pub IsStartFault : RunFault → Type 0
IsStartFault fault = (fault ≡ Log) ⊎ (fault ≡ Memory)
