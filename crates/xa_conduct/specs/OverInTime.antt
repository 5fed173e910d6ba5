-- That a transaction is over after so many moves that were taken.
use Rattle.std.specs.Prelude.{◌≡◌, ◌≤◌, ◌<◌, ◌+◌, ◌*◌, ℕ, true, List, length, get_or}
use Rattle.xa_conduct.specs.NotStuck.{is_at_rest}
use Rattle.xa_conduct.specs.Over.{is_all_answered}
use Rattle.xa_conduct.specs.Turns.{IsNew, Turns}
use Rattle.xa_conduct.specs.declared.transaction.Transaction.{Transaction}

-- Once four moves for each of its branches and one were taken of a transaction that began, it is over. It was at rest then, as each is between two
-- lines.
abbrev pub TransactionsAreOver : Type 0
TransactionsAreOver =
    (i : ℕ) (d : Transaction) (n : ℕ) (first last : List Transaction) → i < length first → IsNew (get_or first i d) → Turns i d n first last
    → is_at_rest (get_or first i d) ≡ true → 4 * length (get_or last i d).parts.items + 1 ≤ n → is_all_answered (get_or last i d) ≡ true
