-- What a log holds that was made of lines.
use Rattle.std.proofs.Common.{◌≤◌, ℕ, refl, arith}
use Rattle.xa_log.specs.Content.{nothing}
use Rattle.xa_log.specs.Contract.{Moment}
use Rattle.xa_mirror.specs.MadeLogs.{MadeLogsHoldLines}
use Rattle.xa_restore.specs.Restored.{RestoredHoldWhatIsSaid, restored}

none_less : (n : ℕ) → n ≤ n
none_less n = omega arith

pub made_logs : {L : Type 0} (moment : L → Moment) → RestoredHoldWhatIsSaid → MadeLogsHoldLines moment
made_logs moment say n ds made order has = record {
  holds = record {
    order = order;
    content = restored n ds nothing;
    has = has;
    same = record { decisions = refl; heuristics = refl };
    raised = none_less (restored n ds nothing).incarnation;
  };
  says = say n ds;
}
