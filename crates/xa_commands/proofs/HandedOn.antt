-- Who opens the files of a log that was made is handed that log.
use Rattle.std.proofs.Common.{◌≡◌, ◌≤◌, inr, ℕ, List, [], ◌∷◌, length, refl, arith}
use mathlib.Core.HLevel.{⊥_prop}
use Rattle.std.proofs.Math.Logic.{∥∥₁_elim}
use Rattle.sqlite.specs.Files.{HoldsDatabase}
use Rattle.sqlite.specs.Recovery.{Image}
use Rattle.sqlite.specs.Tree.{Trees}
use Rattle.xa_log.specs.Content.{Content, nothing}
use Rattle.xa_log.specs.Contract.{Moment}
use Rattle.xa_restore.specs.Restored.{restored}
use Rattle.xa_sql_log.proofs.Closing.{whole_holds}
use Rattle.xa_sql_log.specs.ClosedFiles.{HoldsWhole}
use Rattle.xa_sql_log.specs.HeldContents.{HoldsContent, MakesLabelled}
use Rattle.xa_commands.specs.Made.{MadeLogsAreHandedOn}

none_less : (n : ℕ) → n ≤ n
none_less n = omega arith

-- there is a first page
present : (image : Image) (db : Trees) → HoldsDatabase image db → length image.db ≡ 0 → ⊥
present image db holds none = let adopts = holds.2.found in let there = adopts.found.present in omega (arith, none, there)

some : (c : Content) (image : Image) → HoldsWhole c image → length image.db ≡ 0 → ⊥
some c image whole none = ∥∥₁_elim whole.held.both ⊥_prop (λ holds. present image whole.db holds none)

labelled : (label : List ℕ) (c : Content) (image : Image) → HoldsWhole c image → MakesLabelled label image
labelled [] c image whole = tt
labelled (l ∷ label) c image whole = λ none. absurd (some c image whole none)

holds_content : (c : Content) (image : Image) → HoldsWhole c image → HoldsContent c image
holds_content c image whole = inr (whole.db, whole.held.both, inr (whole.log, whole.content))

pub handed_on : {L : Type 0} (moment : L → Moment) → MadeLogsAreHandedOn moment
handed_on moment n ds image label handed made opens honest =
    let c = restored n ds nothing in
    let makes = labelled label c image made.whole in
    record {
      order = opens.order (whole_holds c image made.whole) makes;
      content = c;
      has = opens.held c (holds_content c image made.whole) makes honest;
      same = record { decisions = refl; heuristics = refl };
      raised = none_less c.incarnation;
    }
