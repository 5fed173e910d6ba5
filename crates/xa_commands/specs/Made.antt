-- A log that is made of lines.
use Rattle.std.specs.Prelude.{◌≡◌, ℕ, List, length}
use Rattle.std.specs.Str.Lines.{lines}
use Rattle.sqlite.specs.Files.{image_of}
use Rattle.sqlite.specs.Recovery.{Image}
use Rattle.sqlite_disk.specs.declared.Disk.{Ghosts}
use Rattle.sqlite_disk.specs.declared.Files.{Files}
use Rattle.sqlite_wal.specs.Reads.{AreClean}
use Rattle.xa_commands.specs.Names.{label_of}
use Rattle.xa_commands.specs.Services.{OpensAs}
use Rattle.xa_log.specs.Content.{nothing}
use Rattle.xa_log.specs.Contract.{Moment}
use Rattle.xa_log.specs.declared.decision.Decision.{Decision}
use Rattle.xa_restore.specs.LogLines.{Rise}
use Rattle.xa_restore.specs.NamedLogs.{AreNamedLinesOf}
use Rattle.xa_restore.specs.Restored.{IsContentOf, restored}
use Rattle.xa_server.specs.Sessions.{HoldsLeft}
use Rattle.xa_sql_log.specs.ClosedFiles.{HoldsWhole}
use Rattle.xa_sql_log.specs.HeldContents.{MakesLabelled}

-- The files hold a whole log, and so does the database file by itself: with so many starts, the
-- row of each of these decisions, no other row, and no record.
pub record HoldMade (starts : ℕ) (decisions : List Decision) (image : Image) : Type 0 where
  pub whole : HoldsWhole (restored starts decisions nothing) image
  pub says : IsContentOf starts decisions (restored starts decisions nothing)

-- A log was made of this text in files that held this image as they were opened. The lines of the
-- text are those of a log, in which no transaction has two decisions. If the database file was
-- empty, the files hold that log, as far as they have been honest. If it has a label, the text with
-- that label is to make the table of the participants, as of each log with one.
pub record IsMadeOf {D : Type 0} (disk : Ghosts D) (image : Image) (text : List ℕ) (files : Files D) : Type 0 where
  pub name : List ℕ
  pub rms : List (List ℕ)
  pub starts : ℕ
  pub decisions : List Decision
  pub said : AreNamedLinesOf name rms starts decisions (lines text)
  pub rise : Rise decisions
  pub holds :
      length image.db ≡ 0 → MakesLabelled (label_of name rms) image → AreClean disk files.log files.db
      → HoldMade starts decisions (image_of disk files)

-- Who opens such files, with whatever label, is handed a log that goes on from what the lines say,
-- as far as they have been honest.
abbrev pub MadeLogsAreHandedOn : {L : Type 0} → (L → Moment) → Type 0
MadeLogsAreHandedOn {L} moment =
    (starts : ℕ) (decisions : List Decision) (image : Image) (label : List ℕ) (handed : L) → HoldMade starts decisions image
    → OpensAs moment image label handed → (moment handed).is_honest → HoldsLeft moment (restored starts decisions nothing) handed
