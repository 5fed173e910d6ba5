-- What the files hold in which a log was made.
use Rattle.std.proofs.Common.{◌≡◌, ◌∙◌, ℕ, List, length, map, Option, Some, None, IfSome, subst, sym}
use Rattle.std.specs.Str.Lines.{lines}
use Rattle.sqlite.specs.Files.{image_of}
use Rattle.sqlite.specs.Recovery.{Image}
use Rattle.sqlite_disk.specs.declared.Disk.{Ghosts}
use Rattle.sqlite_disk.specs.declared.Files.{Files}
use Rattle.sqlite_wal.specs.Reads.{AreClean}
use Rattle.xa_commands.specs.Made.{IsMadeOf}
use Rattle.xa_commands.specs.Names.{label_of}
use Rattle.xa_log.specs.Content.{nothing}
use Rattle.xa_restore.specs.LogLines.{Rise}
use Rattle.xa_restore.specs.NamedLogs.{HasLines}
use Rattle.xa_restore.specs.Restored.{RestoredHoldWhatIsSaid, restored}
use Rattle.xa_restore.specs.declared.named_log.NamedLog.{NamedLog}
use Rattle.xa_sql_log.specs.ClosedFiles.{HoldsWhole}
use Rattle.xa_sql_log.specs.HeldContents.{MakesLabelled}

if_some : (o : Option (List ℕ)) (P Q : List ℕ → Type 0) → ((x : List ℕ) → P x → Q x) → IfSome o P → IfSome o Q
if_some None P Q gives p = tt
if_some (Some x) P Q gives p = gives x p

module _ {D : Type 0} (disk : Ghosts D) (image : Image) (files : Files D) (named : NamedLog) (label : List ℕ) (say : RestoredHoldWhatIsSaid)
    (label_is : label ≡ label_of named.heading.name (map (λ rm. rm.now) named.heading.rms.items)) (rise : Rise named.log.decisions.items)
    (holds : length image.db ≡ 0 → MakesLabelled label image → AreClean disk files.log files.db
    → HoldsWhole (restored named.log.incarnation named.log.decisions.items nothing) (image_of disk files)) where
  made_of : (text : List ℕ) → HasLines (lines text) named → IsMadeOf disk image text files
  made_of text said = record {
    name = named.heading.name;
    rms = map (λ rm. rm.now) named.heading.rms.items;
    starts = named.log.incarnation;
    decisions = named.log.decisions.items;
    said = said;
    rise = rise;
    holds = λ empty makes clean. record {
      whole = holds empty (subst (λ l. MakesLabelled l image) (sym label_is) makes) clean;
      says = say named.log.incarnation named.log.decisions.items;
    };
  }

  pub made_of_read : (read : Option (List ℕ)) (text bytes : List ℕ) → text ≡ bytes → IfSome read (λ all. bytes ≡ all) → HasLines (lines text) named
      → IfSome read (λ all. IsMadeOf disk image all files)
  made_of_read read text bytes is all said =
      if_some read (λ all. bytes ≡ all) (λ all. IsMadeOf disk image all files)
      (λ all same. made_of all (subst (λ t. HasLines (lines t) named) (is ∙ same) said)) all
