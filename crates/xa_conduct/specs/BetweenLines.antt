-- That the transactions of a conductor are at rest between two lines, and so none is stuck.
use Rattle.std.specs.Prelude.{◌≡◌, ◌<◌, ◌⊎◌, ℕ, true, false, All, get_or, length}
use Rattle.xa_log.specs.Contract.{Moment}
use Rattle.xa_conduct.specs.AtRest.{IsAtRest}
use Rattle.xa_conduct.specs.NotStuck.{IsToBeMoved, IsToBeTold}
use Rattle.xa_conduct.specs.Over.{is_all_answered}
use Rattle.xa_conduct.specs.declared.conductor.Conductor.{Conductor}
use Rattle.xa_conduct.specs.declared.transaction.Standing.TheVariants.{Idle}
use Rattle.xa_conduct.specs.declared.transaction.Transaction.{Transaction}

module _ {L : Type 0} (moment : L → Moment) where
  abbrev pub AreAtRest : Conductor L → Type 0
  AreAtRest c = All IsAtRest c.notes.transactions.items

  -- all are, or nothing is told any more
  abbrev pub RestsBetween : Conductor L → Type 0
  RestsBetween c = c.notes.is_stopped ≡ false → AreAtRest c

  -- as a conductor goes on by a line
  abbrev pub KeepsAtRest : (old new : Conductor L) → Type 0
  KeepsAtRest old new = RestsBetween old → RestsBetween new

  -- As long as anything is told, each transaction that has begun is over, or has calls whose answers are taken, or a move of its program is. The
  -- premise is what `Conductor::new`, `Conductor::turn` and `serve` ensure.
  abbrev pub NoneIsStuck : Type 0
  NoneIsStuck =
      (c : Conductor L) → RestsBetween c → c.notes.is_stopped ≡ false → (i : ℕ) (d : Transaction) → i < length c.notes.transactions.items
      → ((get_or c.notes.transactions.items i d).standing ≡ Idle → ⊥)
      → (is_all_answered (get_or c.notes.transactions.items i d) ≡ true)
      ⊎ (IsToBeTold (get_or c.notes.transactions.items i d) ⊎ IsToBeMoved (get_or c.notes.transactions.items i d))
