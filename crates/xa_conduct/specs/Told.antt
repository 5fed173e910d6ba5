-- What the reply to a line of moves tells.
use Rattle.std.specs.Prelude.{◌≡◌, ◌<◌, ◌⊎◌, ℕ, Bool, true, false, List, [], ◌∷◌, ◌++◌, Option, Some, None, codes, get_or, is_some, length}
use Rattle.xa_base.specs.declared.branch.Gtrid.{Gtrid}
use Rattle.xa_requests.specs.declared.request.Request.{Request}
use Rattle.xa_conduct.specs.Backing.{TransactionRests}
use Rattle.xa_conduct.specs.Moves.{ArePairedInOrder, parts_of, thread_in}
use Rattle.xa_conduct.specs.Over.{is_all_answered}
use Rattle.xa_conduct.specs.Progress.{IsBegun}
use Rattle.xa_conduct.specs.Texts.{move_reply_text, started_text}
use Rattle.xa_conduct.specs.declared.notes.Reply.{Reply}
use Rattle.xa_conduct.specs.declared.notes.Reply.TheVariants as replies
use Rattle.xa_conduct.specs.declared.transaction.Transaction.{Transaction}

-- ** words

-- behind a word comes a space, or nothing
abbrev pub IsBehindWord : List ℕ → Type 0
IsBehindWord [] = Unit {0}
IsBehindWord (c ∷ cs) = c ≡ 32

-- this is the first word of the text
pub record HasFirst (word text : List ℕ) : Type 0 where
  pub rest : List ℕ
  pub is : text ≡ word ++ rest
  pub parted : IsBehindWord rest

-- a text goes on by some that is so
abbrev pub AddsText : (List ℕ → Type 0) → (old new : List ℕ) → Type 0
AddsText IsSo old new = (said : List ℕ) × (new ≡ old ++ said) × IsSo said

-- ** replies

-- the transaction stands as it did
pub record IsSame (t u : Transaction) : Type 0 where
  pub gtrid : u.gtrid ≡ t.gtrid
  pub standing : u.standing ≡ t.standing
  pub parts : u.parts.items ≡ t.parts.items

-- A transaction goes on, and no name is told behind it; or it is over, and the thread's next has begun, by the name that is.
abbrev pub GivesWay : Transaction → Option Gtrid → Transaction → Type 0
GivesWay t None u = (is_all_answered t ≡ false) × IsSame t u
GivesWay t (Some g) u = (is_all_answered t ≡ true) × IsBegun g u

-- What is told of the transaction that was noted of a thread, by its name, rests on what was asked for, and is told whole; and that transaction, or
-- the next, is the one that is noted then.
pub record TellsSo (asked : (Request → Bool) → Bool) (noted now : List Transaction) (thread : ℕ) (text : List ℕ) : Type 0 where
  pub transaction : Transaction
  pub next : Option Gtrid
  pub among : thread < length noted
  pub name : transaction.gtrid ≡ (get_or noted thread transaction).gtrid
  pub rests : TransactionRests asked transaction
  pub is : text ≡ move_reply_text transaction next
  pub gives : GivesWay transaction next (get_or now thread transaction)

-- it says that the thread's first transaction began, by its name; or that nothing was done
abbrev pub IsStart : List ℕ → Type 0
IsStart text = (g : Gtrid) × (text ≡ started_text g)

abbrev pub IsError : List ℕ → Type 0
IsError text = (text ≡ codes "error not a move") ⊎ (text ≡ codes "error not now")

-- A reply to a move of the thread tells of that thread's transaction, or is one of these.
abbrev pub IsReply : ((Request → Bool) → Bool) → (noted now : List Transaction) → (thread : Option ℕ) → List ℕ → Type 0
IsReply asked noted now (Some thread) text = TellsSo asked noted now thread text ⊎ (IsStart text ⊎ IsError text)
IsReply asked noted now None text = IsError text

-- to the move that this part of a line asks for
abbrev pub IsReplyTo : ((Request → Bool) → Bool) → (noted now : List Transaction) → (part text : List ℕ) → Type 0
IsReplyTo asked noted now part text = IsReply asked noted now (thread_in part) text

-- replies, with this between any two
abbrev pub joined_replies : List (List ℕ) → List ℕ
joined_replies [] = []
joined_replies (x ∷ []) = x
joined_replies (x ∷ (y ∷ ys)) = x ++ (59 ∷ joined_replies (y ∷ ys))

-- The replies to a line of moves are one to each of its parts, in their order. What is told of the transaction of a thread is told of the one that
-- was noted of it before the line; and that one, or the thread's next, is the one that is noted behind it.
pub record AreReplies (asked : (Request → Bool) → Bool) (noted now : List Transaction) (line text : List ℕ) : Type 0 where
  pub replies : List (List ℕ)
  pub are : text ≡ joined_replies replies
  pub each : ArePairedInOrder (IsReplyTo asked noted now) (parts_of line) replies

-- ** while a line is replied

-- the transaction of the thread is as it was
abbrev pub IsSameAt : (thread : ℕ) → List Transaction → List Transaction → Type 0
IsSameAt t old new = (d : Transaction) → get_or new t d ≡ get_or old t d

-- what is told by a reply
abbrev pub IsToldBy : ((Request → Bool) → Bool) → (noted now : List Transaction) → Reply → List ℕ → Type 0
IsToldBy asked noted now (replies.Thread t) text = TellsSo asked noted now t text ⊎ (text ≡ codes "error not now")
IsToldBy asked noted now (replies.Started t g) text = text ≡ started_text g
IsToldBy asked noted now replies.NoMove text = text ≡ codes "error not a move"
IsToldBy asked noted now replies.NotNow text = text ≡ codes "error not now"

-- A name goes with a reply exactly if the transaction that it tells of is over.
abbrev pub HasNext : List Transaction → Reply → Option Gtrid → Type 0
HasNext ts (replies.Thread t) next = (d : Transaction) → t < length ts → is_some next ≡ is_all_answered (get_or ts t d)
HasNext ts reply next = Unit {0}

-- by each of these
pub record AreRepliesTold (asked : (Request → Bool) → Bool) (noted now : List Transaction) (told : List Reply) (text : List ℕ) : Type 0 where
  pub texts : List (List ℕ)
  pub are : text ≡ joined_replies texts
  pub each : ArePairedInOrder (IsToldBy asked noted now) told texts
