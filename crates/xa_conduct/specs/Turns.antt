-- How a transaction goes on by lines, what they are replied, and that it comes to an end.
use Rattle.std.specs.Prelude.{◌≡◌, ◌≤◌, ◌<◌, ◌+◌, ◌*◌, ◌⊎◌, ℕ, true, false, List, [], ◌∷◌, codes, length, get_or}
use Rattle.std.specs.List.{list_any}
use Rattle.xa_log.specs.Contract.{Moment}
use Rattle.xa_conduct.specs.AtRest.{KeepAtRest}
use Rattle.xa_conduct.specs.Conducting.{MovesNone}
use Rattle.xa_conduct.specs.Over.{is_all_answered}
use Rattle.xa_conduct.specs.Progress.{AllStep, is_start, moves_taken}
use Rattle.xa_conduct.specs.Texts.{started_text}
use Rattle.xa_conduct.specs.Told.{IsSame, joined_replies}
use Rattle.xa_conduct.specs.declared.conductor.Conductor.{Conductor}
use Rattle.xa_conduct.specs.declared.notes.Reply.{Reply}
use Rattle.xa_conduct.specs.declared.notes.Reply.TheVariants as replies
use Rattle.xa_conduct.specs.declared.transaction.Standing.TheVariants.{Open}
use Rattle.xa_conduct.specs.declared.transaction.Transaction.{Transaction}

-- ** the reply to a line

-- The text of a reply: where no move was taken, or a thread's first transaction began, it says so.
abbrev pub IsSaid : Reply → List ℕ → Type 0
IsSaid (replies.Thread t) text = Unit {0}
IsSaid (replies.Started t g) text = text ≡ started_text g
IsSaid replies.NoMove text = text ≡ codes "error not a move"
IsSaid replies.NotNow text = text ≡ codes "error not now"

abbrev pub AreSaid : List Reply → List (List ℕ) → Type 0
AreSaid [] [] = Unit {0}
AreSaid (reply ∷ told) (text ∷ texts) = IsSaid reply text × AreSaid told texts
AreSaid told texts = ⊥

-- the text has a part for each reply
pub record SaysAll (told : List Reply) (text : List ℕ) : Type 0 where
  pub texts : List (List ℕ)
  pub are : text ≡ joined_replies texts
  pub said : AreSaid told texts

-- ** one transaction after another

-- nothing has happened in it
abbrev pub IsNew : Transaction → Type 0
IsNew t = (t.standing ≡ Open) × (t.parts.items ≡ [])

-- it goes on; or it is over, and the thread's next has begun
abbrev pub Passes : Transaction → Transaction → Type 0
Passes t u = IsSame t u ⊎ ((is_all_answered t ≡ true) × IsNew u)

pub record AllPass (ts us : List Transaction) : Type 0 where
  pub count : length us ≡ length ts
  pub each : (i : ℕ) (d : Transaction) → i < length ts → Passes (get_or ts i d) (get_or us i d)

-- By a line the transaction of each thread makes a step for each of its moves that was taken, none is taken back, and only one that is over gives
-- way to the next; and one that was at rest is at rest. Each part of the reply is that of a move that was taken, or says that none was, or that the
-- thread's first transaction began.
pub record TurnsOn (old new : List Transaction) (text : List ℕ) : Type 0 where
  pub told : List Reply
  pub between : List Transaction
  pub steps : AllStep told old between
  pub passes : AllPass between new
  pub rests : KeepAtRest old new
  pub said : SaysAll told text

-- as a conductor goes on
abbrev pub StepsOn : {L : Type 0} (moment : L → Moment) → (old new : Conductor L) → List ℕ → Type 0
StepsOn moment old new text = TurnsOn old.notes.transactions.items new.notes.transactions.items text ⊎ MovesNone moment old new

-- ** its end

-- Lines in turn, of which none began the thread's transaction: it went on by each, and so many of its moves were taken. It may be over behind the last.
pub data Turns (i : ℕ) (d : Transaction) : ℕ → List Transaction → List Transaction → Type 0 where
  NoLine : (ts : List Transaction) → Turns i d 0 ts ts
  OneMore : (n : ℕ) (first old new : List Transaction) (text : List ℕ) (before : Turns i d n first old) (on : TurnsOn old new text)
      → list_any (is_start i) on.told ≡ false → IsSame (get_or on.between i d) (get_or new i d)
      → Turns i d (n + moves_taken i on.told) first new

-- Of a transaction that began and has so many branches, no more than four moves for each and one are ever taken.
abbrev pub TransactionsEnd : Type 0
TransactionsEnd =
    (i : ℕ) (d : Transaction) (n : ℕ) (first last : List Transaction) → i < length first → IsNew (get_or first i d) → Turns i d n first last
    → ((get_or last i d).gtrid ≡ (get_or first i d).gtrid) × (n ≤ 4 * length (get_or last i d).parts.items + 1)
