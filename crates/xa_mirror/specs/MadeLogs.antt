-- A log that was made of lines.
use Rattle.std.specs.Prelude.{◌≡◌, ℕ, List, Some}
use Rattle.xa_log.specs.Content.{nothing}
use Rattle.xa_log.specs.Contract.{Moment}
use Rattle.xa_log.specs.declared.decision.Decision.{Decision}
use Rattle.xa_restore.specs.NamedLogs.{AreNamedLinesOf}
use Rattle.xa_restore.specs.Restored.{IsContentOf, restored}
use Rattle.xa_server.specs.Sessions.{HoldsLeft}

-- The log has been started so often, has the row of each of these decisions, no other row and no
-- record; and the next session may be handed it.
pub record HoldsLines {L : Type 0} (moment : L → Moment) (starts : ℕ) (decisions : List Decision) (made : L) : Type 0 where
  pub holds : HoldsLeft moment (restored starts decisions nothing) made
  pub says : IsContentOf starts decisions (restored starts decisions nothing)

-- So it is if the log is in order and holds what lines say in addition to an empty log, as
-- `restore_log` of `xa_restore` leaves one (`made`, `order`).
abbrev pub MadeLogsHoldLines : {L : Type 0} → (L → Moment) → Type 0
MadeLogsHoldLines {L} moment =
    (starts : ℕ) (decisions : List Decision) (made : L) → (moment made).is_in_order
    → (moment made).content ≡ Some (restored starts decisions nothing) → HoldsLines moment starts decisions made

-- These are the lines of a log, and one that was in order and empty holds them now, as far as it
-- has been honest.
pub record IsMadeOfLines {L : Type 0} (moment : L → Moment) (lines : List (List ℕ)) (empty made : L) : Type 0 where
  pub name : List ℕ
  pub rms : List (List ℕ)
  pub starts : ℕ
  pub decisions : List Decision
  pub said : AreNamedLinesOf name rms starts decisions lines
  pub holds :
      (moment empty).is_in_order → (moment empty).content ≡ Some nothing → (moment made).is_honest
      → HoldsLines moment starts decisions made
