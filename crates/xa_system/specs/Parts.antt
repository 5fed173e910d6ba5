-- How the parts that a system holds stand to its history.
use Rattle.std.specs.Prelude.{◌≡◌, ◌≢◌, ◌<◌, ◌≤◌, ℕ, not, List, [], length, Option, Some, None, slice_get, vec_len, Result, Ok, Err}
use Rattle.std.specs.Option.{option_map_or}
use Rattle.xa_model.specs.Replies.Allowed.{Allowed}
use Rattle.xa_model.specs.Facts.Distinct.{ApartRows}
use Rattle.xa_model.specs.Facts as facts
use Rattle.xa_base.specs.HeldBranch.{HeldBranch, new_branch}
use Rattle.xa_model.specs.Replies.History.{reply_of, step_of}
use Rattle.xa_model.specs.Facts.{rm_up}
use Rattle.xa_model.specs.Replies.Guards.{is_at, recovery_guards, refusal_by, script_guards}
use Rattle.xa_model.specs.Replies.Rules.{has_rm, must_refuse}
use Rattle.xa_model.specs.Replies.View.{lines_of, view_of}
use Rattle.xa_base.specs.Scan.{Scan, Scan.NotOpen}
use Rattle.xa_model.specs.Replies.Steps.{happened}
use Rattle.xa_model.specs.Trace.{Name, Name.Foreign, Origin, Recorded, Row, Trace, Trace.From, Trace.Then, line}
use Rattle.xa_base.specs.Xid.{Xid}
use Rattle.xa_base.specs.declared.refusal.Refusal.{Refusal}
use Rattle.xa_base.specs.declared.refusal.Refusal.TheVariants as Refusals
use Rattle.xa_base.specs.declared.reply.Reply.{Reply}
use Rattle.xa_base.specs.declared.reply.Reply.TheVariants as Replies
use Rattle.xa_base.specs.declared.step.Step.{Step}
use Rattle.xa_line.specs.Grid.{HasLine, IsWhole, line_at}
use Rattle.xa_log.specs.Content.{last_number}
use Rattle.xa_line.specs.Histories.{LineStands}
use Rattle.xa_log.specs.Contract.{Moment}
use Rattle.xa_system.specs.LogInHistory.{LogFollows}
use Rattle.xa_system.specs.RmInHistory.{BeginsOver, RmStands, scan_by}
use Rattle.xa_system.specs.Steps.{IsSame}
use Rattle.xa_system.specs.Trace.{IsKept}
use Rattle.xa_rm.specs.declared.fault.RmFault.{RmFault}
use Rattle.xa_rm.specs.declared.fault.RmFault.TheVariants as Faults
use Rattle.xa_system.specs.declared.parts.Parts.{Parts}
use Rattle.xa_system.specs.declared.system.TheConstants.{EVENT_LIMIT}
use Rattle.xa_system.specs.declared.site.Site.{Site}
use Rattle.xa_tm.specs.Begins.{records_begun, rows_begun}
use Rattle.xa_tm.specs.Book.{book_of}
use Rattle.xa_tm.specs.LedgerBook.{IsSound}
use Rattle.xa_tm.specs.Calls.{book_in, log_in}
use Rattle.xa_tm.specs.Limits.{HasRoomForRun, happenings}
use Rattle.xa_tm.specs.declared.manager.Manager.{Manager}
use Rattle.xa_rm.specs.Look.{Look}

-- what contracts see of the resource managers and the log of a system
pub record Sees (R L : Type 0) : Type 1 where
  pub look : R → Look
  pub moment : L → Moment

abbrev pub sees : {R L : Type 0} → (R → Look) → (L → Moment) → Sees R L
sees look moment = record { look = look; moment = moment }

-- ** the start

-- what the resource managers hold, the first being number 0, and none beyond them
abbrev pub held_at_rm : {R : Type 0} → (R → Look) → List R → (rm : ℕ) → Xid → HeldBranch
held_at_rm look rms r = option_map_or (λ rm. (look rm).held) (slice_get rms r) (λ x. new_branch)

abbrev pub doubt_in : {R : Type 0} → (R → Look) → List R → (rm : ℕ) → List Xid
doubt_in look rms r = option_map_or (λ rm. (look rm).in_doubt) (slice_get rms r) []

-- where the first thread's scan stands: after an identifier, whatever that names
abbrev pub first_scan : {R : Type 0} → (R → Look) → List R → (rm : ℕ) → Scan Name
first_scan look rms r = option_map_or (λ rm. scan_by (λ x. Foreign x) ((look rm).scan 0)) (slice_get rms r) NotOpen

-- where a system starts whose manager begins so
abbrev pub origin_from : {R : Type 0} → (R → Look) → (threads : ℕ) → List R
    → (incarnation : ℕ) → List Row → List Recorded → Origin
origin_from look threads rms incarnation rows records = record {
  threads = threads;
  rms = length rms;
  incarnation = incarnation;
  rows = rows;
  heuristic_rows = records;
  held = held_at_rm look rms;
  in_doubt = doubt_in look rms;
  scans = first_scan look rms;
}

-- where a system of these parts starts
abbrev pub origin_of : {R L : Type 0} → Sees R L → (threads : ℕ) → List R → Manager L → Origin
origin_of see threads rms manager =
    origin_from see.look threads rms (book_in manager).incarnation (rows_begun manager) (records_begun manager)

-- ** scripts

-- the reply to what a resource manager was told, by its result
abbrev pub noted_as : Result (Unit {0}) RmFault → Reply Xid
noted_as (Ok u) = Replies.Noted
noted_as (Err Faults.Script) = Replies.Refused Refusals.Script
noted_as (Err Faults.Memory) = Replies.Refused Refusals.Memory

-- ** where the parts stand

module _ {R L : Type 0} (see : Sees R L) where
  -- a resource manager, and whether it is up
  pub record SiteStands (tr : Trace) (r : ℕ) (site : Site R) : Type 0 where
    pub is_up : site.is_up ≡ rm_up tr r
    pub rm : RmStands see.look tr r site.rm

  -- the parts are where the history leaves them
  pub record Stands (tr : Trace) (parts : Parts R L) : Type 0 where
    pub origin : facts.origin tr ≡ origin_of see parts.lines.threads parts.start.value.items parts.began.value
    pub some_thread : 0 < (facts.origin tr).threads
    pub kept : IsKept tr
    pub over : BeginsOver (facts.origin tr)
    pub apart : ApartRows (facts.origin tr).rows
    pub began : IsSound (book_of (From (facts.origin tr)))
    pub room : HasRoomForRun (book_of (From (facts.origin tr)))
    pub fits : facts.incarnation tr ≤ last_number
    pub count : vec_len parts.sites ≡ (facts.origin tr).rms
    pub sites : (r : ℕ) (site : Site R) → slice_get parts.sites.items r ≡ Some site → SiteStands tr r site
    pub rms : parts.lines.rms ≡ (facts.origin tr).rms
    pub whole : IsWhole parts.lines
    pub lines : (t r : ℕ) → HasLine parts.lines t r → LineStands tr (line t r) (line_at parts.lines t r)
    pub book : book_in parts.manager ≡ book_of tr

  -- ** steps

  -- the resource managers, the lines, the manager and the log are as before
  pub record IsUnchanged (old new : Parts R L) : Type 0 where
    pub sites : (r : ℕ) (before : Site R) → slice_get old.sites.items r ≡ Some before
        → (after : Site R) × (slice_get new.sites.items r ≡ Some after) × (after.is_up ≡ before.is_up)
        × IsSame see.look before.rm after.rm
    pub lines : (t r : ℕ) → HasLine old.lines t r → line_at new.lines t r ≡ line_at old.lines t r
    pub book : book_in new.manager ≡ book_in old.manager
    pub log : log_in new.manager ≡ log_in old.manager

  -- the step was answered as the history demands, and the parts then stand where one happening more
  -- leaves them
  pub record OneMore (step : Step Xid) (reply : Reply Xid) (tr : Trace) (old new : Parts R L) : Type 0 where
    pub allowed : Allowed tr (step_of step) (reply_of reply)
    pub stands : Stands (Then tr (happened (step_of step) (reply_of reply))) new
    pub began : new.began ≡ old.began
    pub log : LogFollows see.moment tr (happened (step_of step) (reply_of reply)) old.manager new.manager
    pub unchanged : (n : Refusal) → reply ≡ Replies.Refused n → n ≢ Refusals.LogFault → IsUnchanged old new

  -- so it is wherever the parts stood
  abbrev pub GoesOn : Step Xid → Reply Xid → Parts R L → Parts R L → Type 0
  GoesOn step reply old new = (tr : Trace) → Stands tr old → happenings tr < EVENT_LIMIT → OneMore step reply tr old new

  -- so it is wherever the parts stood and the step is not refused
  abbrev pub Leads : Step Xid → Reply Xid → Parts R L → Parts R L → Type 0
  Leads step reply old new = (tr : Trace) → Stands tr old → happenings tr < EVENT_LIMIT
      → must_refuse tr (step_of step) ≡ None → OneMore step reply tr old new

  -- wherever the parts stand, this is the refusal of the step, or none
  abbrev pub Judges : Step Xid → Parts R L → Option Refusal → Type 0
  Judges step parts refusal = (tr : Trace) → Stands tr parts → happenings tr < EVENT_LIMIT
      → refusal ≡ must_refuse tr (step_of step)

  -- the parts stand somewhere, and there is room for an event
  abbrev pub StandsSomewhere : Parts R L → Type 0
  StandsSomewhere parts = (tr : Trace) × Stands tr parts × (happenings tr < EVENT_LIMIT)

  -- the parts stand somewhere if the step is not refused
  abbrev pub IsAllowed : Step Xid → Parts R L → Type 0
  IsAllowed step parts = (tr : Trace) × Stands tr parts × (happenings tr < EVENT_LIMIT)
      × (must_refuse tr (step_of step) ≡ None)

  -- wherever the parts stand, this is why a resource manager isn't told anything of what the name
  -- is of
  abbrev pub HindersScript : (rm : ℕ) → Name → Parts R L → Option Refusal → Type 0
  HindersScript r n parts refusal = (tr : Trace) → Stands tr parts
      → refusal ≡ refusal_by (has_rm tr r) (script_guards (lines_of tr) r (not (is_at r n)))

  -- wherever the parts stand, this is why no recovery of so many calls may begin at a resource
  -- manager
  abbrev pub HindersRecovery : (rm calls : ℕ) → Parts R L → Option Refusal → Type 0
  HindersRecovery r n parts refusal = (tr : Trace) → Stands tr parts
      → refusal ≡ refusal_by (has_rm tr r) (recovery_guards (view_of tr) (lines_of tr) r n)
