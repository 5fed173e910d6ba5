-- What is seen of a system: where it started, its events, and the parts that it holds.
use Rattle.std.specs.Prelude.{◌≡◌, ◌≤◌, ◌<◌, ◌⊎◌, ◌+◌, ◌++◌, ℕ, true, false, Some, IsSomeAnd, List, length, map, vec_len, slice_get}
use Rattle.std.specs.Vec.{vec_capacity}
use Rattle.xa_base.specs.Xid.{Xid}
use Rattle.xa_model.specs.Facts.{started}
use Rattle.xa_model.specs.Protocol.{OldOrigin}
use Rattle.xa_model.specs.Replies.History.{AreAllowed, history}
use Rattle.xa_model.specs.Trace.{Origin, Recorded, Row, Trace, line}
use Rattle.xa_base.specs.Branch.{IsBranch, own_format}
use Rattle.xa_base.specs.Recover.{IsInDoubtList}
use Rattle.xa_base.specs.declared.limits.TheConstants.{MAX_RMS, MAX_THREADS}
use Rattle.xa_base.specs.declared.branch.Branch.{Branch}
use Rattle.xa_rm.specs.ResourceManager.{HoldsFormat, HoldsNewer, HoldsNoFormat, HoldsPast}
use Rattle.xa_system.specs.declared.site.Site.{Site}
use Rattle.xa_log.specs.Content.{Content}
use Rattle.xa_log.specs.Contract.{Honestly, Moment}
use Rattle.xa_base.specs.declared.refusal.Refusal.TheVariants as Refusals
use Rattle.xa_base.specs.declared.reply.Event.{Event}
use Rattle.xa_base.specs.declared.reply.Reply.{Reply}
use Rattle.xa_base.specs.declared.reply.Reply.TheVariants as Replies
use Rattle.xa_base.specs.declared.step.Step.{Step}
use Rattle.xa_line.specs.Grid.{Grid, HasLine, line_at, new_grid}
use Rattle.xa_line.specs.Histories.{LineStands}
use Rattle.xa_system.specs.LogInHistory.{AreTied, IsBeforeNext, LogStands, MayBeLeft, MayRestartOver, StartsOver, greatest_count, log_faults, log_faults_but_restarts}
use Rattle.xa_system.specs.Parts.{Sees, Stands, origin_from, origin_of}
use Rattle.xa_system.specs.declared.system.TheConstants.{EVENT_LIMIT}
use Rattle.xa_system.specs.RmInHistory.{RmStands}
use Rattle.xa_system.specs.Steps.{IsSame}
use Rattle.xa_system.specs.declared.parts.Parts.{Parts}
use Rattle.xa_system.specs.declared.system.System.TheInside.{Inside}
use Rattle.xa_tm.specs.Begins.{records_begun, rows_begun}
use Rattle.xa_tm.specs.LedgerBook as books
use Rattle.xa_tm.specs.Calls.{book_in, log_in}
use Rattle.xa_tm.specs.Slots.{slot_moment}
use Rattle.xa_tm.specs.BookAndLog.{IsTied}
use Rattle.xa_tm.specs.declared.slot.Slot.{Slot}
use Rattle.xa_rm.specs.Look.{Look}

-- what contracts see of the resource managers, of a log, and of the place that a system has for one
pub record Observes (R L : Type 0) : Type 1 where
  pub look : R → Look
  pub moment : L → Moment
  pub place : Slot L → Moment

abbrev pub observes : {R L : Type 0} → (R → Look) → (L → Moment) → Observes R L
observes look moment = record { look = look; moment = moment; place = slot_moment moment }

-- `start` has the resource managers and `first` the log as they were handed in; `begun` is the
-- place of that log as the manager began over it, and `incarnation`, `rows` and `records` are what
-- it began with; `handed` is the log as it was handed in last, and `log` its place
pub record SystemView (R L : Type 0) : Type 0 where
  pub start : List R
  pub first : L
  pub begun : Slot L
  pub incarnation : ℕ
  pub rows : List Row
  pub records : List Recorded
  pub events : List Event
  pub rms : List R
  pub lines : Grid
  pub handed : L
  pub log : Slot L

abbrev pub system_view_of : {R L : Type 0} → Inside R L → SystemView R L
system_view_of a = record {
  start = a.parts.start.value.items;
  first = a.first.value;
  begun = log_in a.parts.began.value;
  incarnation = (book_in a.parts.began.value).incarnation;
  rows = rows_begun a.parts.began.value;
  records = records_begun a.parts.began.value;
  events = a.events.items;
  rms = map (λ site. site.rm) a.parts.sites.items;
  lines = a.parts.lines;
  handed = a.handed.value;
  log = log_in a.parts.manager;
}

-- where the system started
abbrev pub origin_in : {R L : Type 0} → (R → Look) → SystemView R L → Origin
origin_in look s = origin_from look s.lines.threads s.start s.incarnation s.rows s.records

-- its history
abbrev pub trace_in : {R L : Type 0} → (R → Look) → SystemView R L → Trace
trace_in look s = history (origin_in look s) s.events

module _ {R L : Type 0} (see : Observes R L) where
  -- the log that was handed in first has the rows and the record of the start; and the log held is
  -- where the history leaves it, if it was in order as it was handed in, and what it rests on has
  -- been honest
  pub record HoldsItsLog (s : SystemView R L) : Type 0 where
    pub start : Honestly (see.moment s.first) (see.place s.begun) (IsSomeAnd (see.moment s.first).content (StartsOver (origin_in see.look s)))
    pub stands : Honestly (see.moment s.handed) (see.place s.log) (LogStands (trace_in see.look s) (see.place s.log).content)
    -- then that is in order, and so is each content that a crash may leave of it
    pub order : (see.moment s.handed).is_in_order → (see.place s.log).is_in_order
    pub leaves : Honestly (see.moment s.handed) (see.place s.log) ((c : Content) → (see.place s.log).may_leave c → MayBeLeft (trace_in see.look s) c)

  -- each reply is the one that the history before it demands, and the parts are where the history
  -- leaves them
  pub record HoldsItsTrace (s : SystemView R L) : Type 0 where
    pub allowed : AreAllowed (origin_in see.look s) s.events
    -- no row, no record and no branch of the start is of a transaction that may still be begun, and
    -- what was in doubt is listed
    pub old : OldOrigin (origin_in see.look s)
    pub listed : (r : ℕ) → IsInDoubtList ((origin_in see.look s).held r) ((origin_in see.look s).in_doubt r)
    -- each branch that was started since has an identifier
    pub numbers : (b : Branch) → started (trace_in see.look s) b ≡ true → IsBranch b
    -- no resource manager and no line is missing
    pub count : length s.rms ≡ length s.start
    pub grid : s.lines.rms ≡ length s.start
    pub rms : (r : ℕ) (rm : R) → slice_get s.rms r ≡ Some rm → RmStands see.look (trace_in see.look s) r rm
    pub lines : (t r : ℕ) → HasLine s.lines t r → LineStands (trace_in see.look s) (line t r) (line_at s.lines t r)
    pub log : HoldsItsLog s

  -- a restart may follow: the log held is shut, or of an incarnation that the history's restarts
  -- may have left
  abbrev pub MayRestart : SystemView R L → Type 0
  MayRestart s = MayRestartOver (trace_in see.look s) (see.place s.log).content

  -- so may one over each content that a crash may leave of the log
  abbrev pub MayRestartAfterCrash : SystemView R L → Type 0
  MayRestartAfterCrash s = (c : Content) → (see.place s.log).may_leave c → IsBeforeNext (trace_in see.look s) c

  -- the resource managers, the lines and the log are as before
  pub record IsAsBefore (old new : SystemView R L) : Type 0 where
    pub rms : (r : ℕ) (before : R) → slice_get old.rms r ≡ Some before
        → (after : R) × (slice_get new.rms r ≡ Some after) × IsSame see.look before after
    pub lines : (t r : ℕ) → HasLine old.lines t r → line_at new.lines t r ≡ line_at old.lines t r
    pub log : new.log ≡ old.log

  -- of the events since then, at most as many were answered that the log failed as its count rose
  -- by, unless the count has come to the greatest number
  abbrev pub FaultsHaveCauses : (old new : SystemView R L) → Type 0
  FaultsHaveCauses old new = (greatest_count ≤ (see.place new.log).fault_count)
      ⊎ (log_faults new.events + (see.place old.log).fault_count ≤ log_faults old.events + (see.place new.log).fault_count)

  -- the same of the events that are no restarts of the manager
  abbrev pub OtherFaultsHaveCauses : (old new : SystemView R L) → Type 0
  OtherFaultsHaveCauses old new = (greatest_count ≤ (see.place new.log).fault_count)
      ⊎ (log_faults_but_restarts new.events + (see.place old.log).fault_count
      ≤ log_faults_but_restarts old.events + (see.place new.log).fault_count)

  -- what is known of the log that was handed in first and of the one handed in last, and of what
  -- became of that
  pub record KeepsLog (origin : Origin) (a : Inside R L) : Type 0 where
    pub order : (see.moment a.handed.value).is_in_order → (see.place (log_in a.parts.manager)).is_in_order
    pub honest : (see.place (log_in a.parts.manager)).is_honest → (see.moment a.handed.value).is_honest
    pub start : Honestly (see.moment a.first.value) (see.place (log_in a.parts.began.value))
        (IsSomeAnd (see.moment a.first.value).content (StartsOver origin))
    pub tied : Honestly (see.moment a.handed.value) (see.place (log_in a.parts.manager))
        (IsTied false (book_in a.parts.manager) (see.place (log_in a.parts.manager)).content)
    pub left : Honestly (see.moment a.handed.value) (see.place (log_in a.parts.manager))
        (AreTied false (book_in a.parts.manager) (see.place (log_in a.parts.manager)).may_leave)

module _ {R L : Type 0} (see : Sees R (Slot L)) (moment : L → Moment) where
  -- what is observed of parts and of the logs that are handed in
  abbrev pub observes_parts : Observes R L
  observes_parts = record { look = see.look; moment = moment; place = see.moment }

  -- where the parts started
  abbrev pub start_of : Parts R (Slot L) → Origin
  start_of parts = origin_of see parts.lines.threads parts.start.value.items parts.began.value

  pub record IsSound (a : Inside R L) : Type 0 where
    pub few : vec_len a.events ≤ EVENT_LIMIT
    pub room : EVENT_LIMIT ≤ vec_capacity a.events
    pub stands : Stands see (history (start_of a.parts) a.events.items) a.parts
    pub allowed : AreAllowed (start_of a.parts) a.events.items
    pub log : KeepsLog observes_parts (start_of a.parts) a

-- ** restarts

-- the log failed, or memory was refused before it was asked
abbrev pub IsFailed : Reply Xid → Type 0
IsFailed reply = (reply ≡ Replies.Refused Refusals.LogFault) ⊎ (reply ≡ Replies.Refused Refusals.Memory)

-- ** steps

-- one event for each step, in order
abbrev pub AddsSteps : List (Step Xid) → List Event → List Event → Type 0
AddsSteps steps old new = (events : List Event) × (map (λ event. event.step) events ≡ steps) × (new ≡ old ++ events)

-- there is no thread or no resource manager, or there are more than a system may have
abbrev pub HasWrongSize : ℕ → ℕ → Type 0
HasWrongSize threads rms = (threads ≡ 0) ⊎ ((MAX_THREADS < threads) ⊎ ((rms ≡ 0) ⊎ (MAX_RMS < rms)))

-- a branch of this system: its numbers fit, and the system started with its thread and its resource
-- manager
pub record IsOwnIn {R L : Type 0} (s : SystemView R L) (b : Branch) : Type 0 where
  pub fits : IsBranch b
  pub thread : b.thread < s.lines.threads
  pub rm : b.rm < length s.start

-- ** the start

module _ {R : Type 0} (look : R → Look) where
  -- no branch of this manager's format was ever started there, and what is in doubt is listed
  pub record IsClear (rm : R) : Type 0 where
    pub no_branch : HoldsNoFormat (look rm).held own_format
    pub listed : IsInDoubtList (look rm).held (look rm).in_doubt

  abbrev pub AreClear : List R → Type 0
  AreClear rms = (r : ℕ) (rm : R) → slice_get rms r ≡ Some rm → IsClear rm

  -- somewhere such a branch was started
  pub record IsUnclear (rms : List R) : Type 0 where
    pub place : ℕ
    pub rm : R
    pub there : slice_get rms place ≡ Some rm
    pub holds : HoldsFormat (look rm).held own_format

  -- each branch of this manager that was ever started there is one that earlier incarnations may
  -- have left at the resource manager of this number, and what is in doubt is listed
  pub record IsOfPast (incarnation r : ℕ) (rm : R) : Type 0 where
    pub past : HoldsPast (look rm).held r incarnation
    pub listed : IsInDoubtList (look rm).held (look rm).in_doubt

  abbrev pub ArePast : (incarnation : ℕ) → List R → Type 0
  ArePast incarnation rms = (r : ℕ) (rm : R) → slice_get rms r ≡ Some rm → IsOfPast incarnation r rm

  -- somewhere one was started that they did not leave
  pub record HasNewer (incarnation : ℕ) (rms : List R) : Type 0 where
    pub place : ℕ
    pub rm : R
    pub there : slice_get rms place ≡ Some rm
    pub holds : HoldsNewer (look rm).held place incarnation

abbrev pub new_site : {R : Type 0} → R → Site R
new_site rm = record { rm = rm; is_up = true }

-- parts are those of a system as it starts with these resource managers
pub record AreNew {R L : Type 0} (threads : ℕ) (rms : List R) (parts : Parts R L) : Type 0 where
  pub start : parts.start.value.items ≡ rms
  pub began : parts.began.value ≡ parts.manager
  pub sites : parts.sites.items ≡ map new_site rms
  pub lines : parts.lines ≡ new_grid threads (length rms)
