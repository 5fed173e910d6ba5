-- That each transaction is at rest between two lines: no line moves it, and what is due is decided.
use Rattle.std.specs.Prelude.{◌≡◌, ◌<◌, ◌||◌, ℕ, Bool, true, false, List, get_or, length, slice_get}
use Rattle.std.specs.List.{list_any}
use Rattle.xa_base.specs.declared.branch.Gtrid.{Gtrid}
use Rattle.xa_conduct.specs.Decided.{is_same}
use Rattle.xa_conduct.specs.Moves.{is_reply_to, is_told_by}
use Rattle.xa_conduct.specs.NotStuck.{is_at_rest, is_ready, is_so_of}
use Rattle.xa_conduct.specs.declared.notes.Reply.{Reply}
use Rattle.xa_conduct.specs.declared.transaction.Transaction.{Transaction}

-- ** the transaction of a thread

-- the line that is being read has moved it
abbrev pub is_moved_in : List Transaction → (thread : ℕ) → Bool
is_moved_in ts i = is_so_of (λ (t : Transaction). t.has_moved) (slice_get ts i)

-- its votes are in, and the decision isn't made
abbrev pub is_due_in : List Transaction → (thread : ℕ) → Bool
is_due_in ts i = is_so_of (λ (t : Transaction). is_ready t.standing) (slice_get ts i)

-- it is one of these
abbrev pub is_named_in : List Gtrid → List Transaction → (thread : ℕ) → Bool
is_named_in gtrids ts i = is_so_of (λ (t : Transaction). list_any (is_same t.gtrid) gtrids) (slice_get ts i)

-- ** while a line is read

-- a move that is taken is of a thread that hasn't moved on this line
abbrev pub IsFirstMove : List Transaction → Reply → Type 0
IsFirstMove ts reply = (i : ℕ) → is_reply_to i reply ≡ true → is_moved_in ts i ≡ false

-- Moves that were taken, by their replies: the transactions of their threads were moved by this line, and no others; and no others came to be due.
pub record MovesTheirs (told : List Reply) (ts us : List Transaction) : Type 0 where
  pub moved : (i : ℕ) → is_moved_in us i ≡ (list_any (is_reply_to i) told || is_moved_in ts i)
  pub due : (i : ℕ) → list_any (is_told_by i) told ≡ false → is_due_in ts i ≡ false → is_due_in us i ≡ false

-- each transaction that is told by these replies and is due is one of those
abbrev pub AreAllDue : List Gtrid → List Transaction → List Reply → Type 0
AreAllDue gtrids ts told = (i : ℕ) → list_any (is_told_by i) told ≡ true → is_due_in ts i ≡ true → is_named_in gtrids ts i ≡ true

-- of those that are told by these replies none is due any more, and no other comes to be
pub record DecidesAll (told : List Reply) (ts us : List Transaction) : Type 0 where
  pub moved : (i : ℕ) → is_moved_in us i ≡ is_moved_in ts i
  pub due : (i : ℕ) → list_any (is_told_by i) told ≡ true → is_due_in us i ≡ false
  pub others : (i : ℕ) → is_due_in ts i ≡ false → is_due_in us i ≡ false

-- ** between two lines

abbrev pub IsAtRest : Transaction → Type 0
IsAtRest t = is_at_rest t ≡ true

-- a transaction that is at rest before a line is at rest behind it
abbrev pub KeepAtRest : (ts us : List Transaction) → Type 0
KeepAtRest ts us = (i : ℕ) (d : Transaction) → i < length ts → IsAtRest (get_or ts i d) → IsAtRest (get_or us i d)
