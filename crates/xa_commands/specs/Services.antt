-- What is written to a driver, and what it is written from.
use Rattle.std.specs.Prelude.{◌≡◌, ◌⊎◌, ℕ, Bool, List, Option, Some, OnOk}
use Rattle.std.specs.Io.KnownBytes.{Appends, Keeps}
use Rattle.sqlite.specs.Files.{image_of}
use Rattle.sqlite.specs.Recovery.{Image}
use Rattle.sqlite_disk.specs.declared.Disk.{Ghosts}
use Rattle.sqlite_disk.specs.declared.Files.{Files}
use Rattle.sqlite_wal.specs.Reads.{AreClean}
use Rattle.xa_sql_log.specs.ClosedFiles.{HoldsWhole}
use Rattle.xa_sql_log.specs.HeldContents.{HoldsContent, MakesLabelled}
use Rattle.xa_sql_log.specs.OpenedDatabase.{HoldsLog}
use Rattle.xa_sql_log.specs.ShutLogs.{HoldsShut}
use Rattle.xa_files.specs.Outputs.{AppendsBeginning}
use Rattle.xa_log.specs.Content.{Content}
use Rattle.xa_conduct.specs.Acting.{GoesOn}
use Rattle.xa_commands.specs.Names.{introduction, label_of}
use Rattle.xa_commands.specs.declared.service.Left.{Left}
use Rattle.xa_commands.specs.declared.service.Left.TheVariants.{Whole, Strange}
use Rattle.xa_commands.specs.declared.service.Served.{Served}
use Rattle.xa_commands.specs.declared.service.Served.TheVariants.{NotYet, Closed, Shut, BrokenOff}
use Rattle.xa_server.specs.NamedLines.{BreaksSessionUnder, ServesUnder}
use Rattle.xa_server.specs.Replies.{greeting_of}
use Rattle.xa_server.specs.declared.server.Server.{Server}
use Rattle.xa_files.specs.declared.fault.RunFault.TheVariants as faults
use Rattle.xa_log.specs.Contract.{Honestly, Moment}
use Rattle.xa_log.specs.declared.decision_log.DecisionLog as DecisionLog
use Rattle.xa_model.specs.Trace.{Origin}
use Rattle.xa_session.specs.Following.{StandsAtStart}
use Rattle.xa_session.specs.Logging.{HoldsItsBook}
use Rattle.xa_monitor.specs.Explained.{HasOnlyOlderRows}
use Rattle.xa_tm.specs.Begins.{BeginsWith}
use Rattle.xa_tm.specs.Calls.{log_in}
use Rattle.xa_tm.specs.Started.{IsStarted, IsStartedOver}
use Rattle.xa_tm.specs.StartFaults.{IsOnlyRead, IsToBlame}
use Rattle.xa_commands.specs.declared.failure.Failure.{Failure}
use Rattle.xa_commands.specs.declared.failure.Failure.TheVariants.{Run}

module _ {L : Type 0} (moment : L → Moment) (name : List ℕ) (threads rms : ℕ) (handed : Moment) where
  -- A coordinator that started for so many threads and resource managers, over the log that was handed in.
  pub record Starts (first : Server L) : Type 0 where
    pub stands : StandsAtStart threads rms first.session
    pub old : (o : Origin) → BeginsWith threads rms first.session.manager o → HasOnlyOlderRows o
    pub started : IsStarted threads rms first.session.manager
    pub over : IsStartedOver moment threads rms handed first.session.manager
    pub holds : (near : Bool) → Honestly handed (moment (log_in first.session.manager)) (HoldsItsBook moment near first.session.manager)

  -- Its session, as the manager of this name: its greeting, and a reply to each line.
  pub record IsServed (unread left written all : Option (List ℕ)) (first last : Server L) : Type 0 where
    pub starts : Starts first
    pub serves : ServesUnder moment name (greeting_of first) unread left written all first last

  -- Such a session that was broken off: what was done is what whole lines that were read ask for, and of the replies all but the last were written.
  pub record IsBrokenOff (unread written all : Option (List ℕ)) (first last : Server L) : Type 0 where
    pub starts : Starts first
    pub breaks : BreaksSessionUnder moment name (greeting_of first) unread written all first last

-- No coordinator started over the log that was handed in: the log is to blame, or memory was refused, and it was only read. Nothing was
-- written.
pub record StartsNot {L : Type 0} (logs : DecisionLog.Ghosts L) (handed : L) (written all : Option (List ℕ)) (failure : Failure) : Type 0 where
  pub silent : Keeps written all
  pub why : ((failure ≡ Run faults.Log) × IsToBlame logs handed) ⊎ ((failure ≡ Run faults.Memory) × ((left : L) × IsOnlyRead logs handed left))

-- the log of a session that is over
abbrev pub log_of : {L : Type 0} → Left L → L
log_of (Whole log) = log
log_of (Strange log) = log

module _ {L : Type 0} (logs : DecisionLog.Ghosts L) (name : List ℕ) (threads rms : ℕ) (handed : L) where
  -- a coordinator served a driver over this log
  abbrev pub HasServed : (unread left written all : Option (List ℕ)) → (log : L) → Type 0
  HasServed unread left written all log =
      (first : Server L) × (last : Server L) × (log ≡ log_in last.session.manager) × IsServed logs.moment name threads rms (logs.moment handed) unread left written all first last

  -- one did, until a page was refused that lists a strange branch
  abbrev pub HasBrokenOff : (unread written all : Option (List ℕ)) → (log : L) → Type 0
  HasBrokenOff unread written all log =
      (first : Server L) × (last : Server L) × (log ≡ log_in last.session.manager) × IsBrokenOff logs.moment name threads rms (logs.moment handed) unread written all first last

  -- the one or the other
  abbrev pub HasEnded : (unread left written all : Option (List ℕ)) → Left L → Type 0
  HasEnded unread left written all (Whole log) = HasServed unread left written all log
  HasEnded unread left written all (Strange log) = HasBrokenOff unread written all log

  -- none started over it, or its session was broken off
  abbrev pub HasFailed : (unread written all : Option (List ℕ)) → Failure → Type 0
  HasFailed unread written all failure =
      StartsNot logs handed written all failure
      ⊎ ((first : Server L) × (last : Server L)
      × IsBrokenOff logs.moment name threads rms (logs.moment handed) unread written all first last)

  -- a coordinator conducted a driver over this log: it did what lines of requests ask for that were asked of it, and no more
  abbrev pub HasConducted : Left L → Type 0
  HasConducted left =
      (first : Server L) × (last : Server L) × (log_of left ≡ log_in last.session.manager) × Starts logs.moment name threads rms (logs.moment handed) first
      × GoesOn logs.moment first last

-- ** over files

-- A log over files that held this image as they were opened, for whoever has this label: it is in order, if they held a log or nothing, and
-- has their content, as far as they have been honest.
pub record OpensAs {L : Type 0} (moment : L → Moment) (image : Image) (label : List ℕ) (log : L) : Type 0 where
  pub order : HoldsLog image → MakesLabelled label image → (moment log).is_in_order
  pub held : (c : Content) → HoldsContent c image → MakesLabelled label image → (moment log).is_honest → (moment log).content ≡ Some c

-- the log was closed: the files hold the whole of it, as far as they have been honest
abbrev pub IsClosedInto : {D L : Type 0} → Ghosts D → (L → Moment) → L → Files D → Type 0
IsClosedInto disk moment log files =
    (moment log).is_in_order → AreClean disk files.log files.db → (c : Content) → (moment log).content ≡ Some c → HoldsWhole c (image_of disk files)

-- the log was shut: the files hold all of it, and no open takes them, as far as they have been honest
abbrev pub IsShutInto : {D L : Type 0} → Ghosts D → (L → Moment) → L → Files D → Type 0
IsShutInto disk moment log files =
    (moment log).is_in_order → AreClean disk files.log files.db → (c : Content) → (moment log).content ≡ Some c → HoldsShut c (image_of disk files)

-- The log of a session that is over was closed, or shut if a branch was strange; where that could be done, the files hold what the session left.
abbrev pub IsEndedInto : {D L : Type 0} → Ghosts D → (L → Moment) → Served → Left L → Type 0
IsEndedInto disk moment NotYet ended = ⊥
IsEndedInto {D = D} disk moment (Closed closed) (Whole log) = OnOk closed ((files : Files D) × IsClosedInto disk moment log files)
IsEndedInto disk moment (Closed closed) (Strange log) = ⊥
IsEndedInto disk moment (Shut shut) (Whole log) = ⊥
IsEndedInto {D = D} disk moment (Shut shut) (Strange log) = OnOk shut ((files : Files D) × IsShutInto disk moment log files)
IsEndedInto disk moment (BrokenOff failure) ended = ⊥

module _ {D L : Type 0} (disk : Ghosts D) (logs : DecisionLog.Ghosts L) (name : List ℕ) (threads rms : ℕ) (handed : L) where
  -- a coordinator served a driver over a log in files, which is closed or shut then
  abbrev pub HasEndedFiles : (unread left written all : Option (List ℕ)) → Served → Type 0
  HasEndedFiles unread left written all served =
      (ended : Left L) × HasEnded logs name threads rms handed unread left written all ended × IsEndedInto disk logs.moment served ended

  -- the same for one that conducted it
  abbrev pub HasConductedFiles : Served → Type 0
  HasConductedFiles served = (ended : Left L) × HasConducted logs name threads rms handed ended × IsEndedInto disk logs.moment served ended

  module _ (rm_names : List (List ℕ)) where
    -- the same, behind the line with its names
    abbrev pub HasEndedNamed : (unread left written all : Option (List ℕ)) → Served → Type 0
    HasEndedNamed unread left written all served =
        (mid : Option (List ℕ)) × Appends written mid (introduction name rm_names) × HasEndedFiles unread left mid all served

    -- the line was written in part, or such a session broke off, or none began
    abbrev pub HasFailedNamed : (unread written all : Option (List ℕ)) → Failure → Type 0
    HasFailedNamed unread written all failure =
        AppendsBeginning written all (introduction name rm_names)
        ⊎ ((mid : Option (List ℕ)) × Appends written mid (introduction name rm_names) × HasFailed logs name threads rms handed unread mid all failure)

module _ {D L : Type 0} (disk : Ghosts D) (logs : DecisionLog.Ghosts L) (image : Image) (name : List ℕ) (rm_names : List (List ℕ)) (threads rms : ℕ) where
  -- a session over the log that the files held: it ended by itself, or was broken off
  abbrev pub HasWorked : (unread left written all : Option (List ℕ)) → Served → Type 0
  HasWorked unread left written all served =
      (handed : L) × OpensAs logs.moment image (label_of name rm_names) handed
      × (HasEndedNamed disk logs name threads rms handed rm_names unread left written all served
      ⊎ ((failure : Failure) × (served ≡ BrokenOff failure) × HasFailedNamed disk logs name threads rms handed rm_names unread written all failure))

  -- What came of a service over files that held this image: nothing, where they are to be tried again; or such a session.
  abbrev pub HasServedFrom : (unread left written all : Option (List ℕ)) → Served → Type 0
  HasServedFrom unread left written all served =
      ((served ≡ NotYet) × Keeps written all) ⊎ HasWorked unread left written all served

  -- The same of a service that conducts its driver; of one that was broken off no more is said than over which log.
  abbrev pub HasConductedFrom : Served → Type 0
  HasConductedFrom served =
      (served ≡ NotYet)
      ⊎ ((handed : L) × OpensAs logs.moment image (label_of name rm_names) handed
      × (HasConductedFiles disk logs name threads rms handed served ⊎ ((failure : Failure) × (served ≡ BrokenOff failure))))

-- the session of a service went to its end
abbrev pub HasEndedByItself : Served → Type 0
HasEndedByItself (Closed closed) = Unit {0}
HasEndedByItself served = ⊥
