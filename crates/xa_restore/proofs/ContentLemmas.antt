-- What a log holds that was made of lines.
use Rattle.std.proofs.Common.{◌∙◌, ap, arith}
use Rattle.std.specs.FinMap.{get, get-empty}
use Rattle.std.specs.Prelude.{◌+◌}
use Rattle.xa_base.specs.Branch.{branch_cmp, gtrid_cmp}
use Rattle.xa_base.specs.declared.code.How.{How}
use Rattle.xa_log.proofs.RowsInTurn.{first_row, same_heuristics, same_incarnation}
use Rattle.xa_log.specs.Content.{nothing, with_incarnation}
use Rattle.xa_log.specs.KeySet.{KeySet}
use Rattle.xa_restore.specs.Restored.{RestoredHoldWhatIsSaid}

pub restored_hold : RestoredHoldWhatIsSaid
restored_hold n ds = record {
  rows = λ g. first_row ds (with_incarnation (0 + n) nothing) g (get-empty {X = KeySet branch_cmp} gtrid_cmp g);
  no_records = λ b. ap (λ m. get m b) (same_heuristics ds (with_incarnation (0 + n) nothing)) ∙ get-empty {X = How} branch_cmp b;
  incarnation = same_incarnation ds (with_incarnation (0 + n) nothing) ∙ (omega arith);
}
