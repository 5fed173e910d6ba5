-- Which thread moves, and of which a reply is.
use Rattle.std.specs.Prelude.{◌≡◌, ◌==◌, ℕ, Bool, true, false, List, [], ◌∷◌, Option, Some, None, length, nat_le, if◌then◌else◌}
use Rattle.std.specs.List.{list_any, slice_split}
use Rattle.xa_files.specs.Numbers.{index_of}
use Rattle.xa_requests.specs.Words.{Word, words_of}
use Rattle.xa_conduct.specs.declared.moves.Move.{Move}
use Rattle.xa_conduct.specs.declared.moves.Move.TheVariants.{Commit, Join, Rollback, Start, Tell}
use Rattle.xa_conduct.specs.declared.notes.Reply.{Reply}
use Rattle.xa_conduct.specs.declared.notes.Reply.TheVariants as replies

-- ** moves

abbrev pub thread_of : Move → Option ℕ
thread_of (Start thread) = Some thread
thread_of (Join thread rms) = Some thread
thread_of (Commit thread) = Some thread
thread_of (Rollback thread) = Some thread
thread_of (Tell thread reports) = Some thread
thread_of _ = None

-- of a part of a line that may be no move
abbrev pub thread_moved : Option Move → Option ℕ
thread_moved None = None
thread_moved (Some asked) = thread_of asked

-- ** lines

-- the parts of a line, cut at each semicolon; of one that has too many there is one, which is empty and no move
unfoldable pub parts_of : List ℕ → List Word
parts_of line = let parts = slice_split (λ c. c == 59) line in if nat_le (length parts) 1024 then parts else [] ∷ []

-- the thread that words behind a verb name, by the first of them
abbrev pub thread_behind : List Word → Option ℕ
thread_behind [] = None
thread_behind (number ∷ words) = index_of number

abbrev pub thread_named : List Word → Option ℕ
thread_named [] = None
thread_named (verb ∷ words) = thread_behind words

-- the thread that a part of a line names: its second word
abbrev pub thread_in : Word → Option ℕ
thread_in part = thread_named (words_of part)

-- a move of a thread is one that words name which are said to name this one
abbrev pub IsMoveBy : Option ℕ → Option Move → Type 0
IsMoveBy named asked = (t : ℕ) → thread_moved asked ≡ Some t → named ≡ Some t

-- the part of a line was read so
abbrev pub IsReadOf : Word → Option Move → Type 0
IsReadOf part asked = IsMoveBy (thread_in part) asked

-- ** replies

-- a reply to the move tells of that thread's transaction, or of none
abbrev pub IsOfThread : Option ℕ → Reply → Type 0
IsOfThread thread (replies.Thread t) = thread ≡ Some t
IsOfThread thread (replies.Started t g) = thread ≡ Some t
IsOfThread thread _ = Unit {0}

abbrev pub IsReplyOf : Option Move → Reply → Type 0
IsReplyOf asked reply = IsOfThread (thread_moved asked) reply

-- each goes with the one at its place
abbrev pub ArePairedInOrder : {X Y : Type 0} → (X → Y → Type 0) → List X → List Y → Type 0
ArePairedInOrder AreSo [] [] = Unit {0}
ArePairedInOrder AreSo (x ∷ xs) (y ∷ ys) = AreSo x y × ArePairedInOrder AreSo xs ys
ArePairedInOrder AreSo xs ys = ⊥

-- it is to a move of the thread that was taken
abbrev pub is_reply_to : (thread : ℕ) → Reply → Bool
is_reply_to i (replies.Thread t) = i == t
is_reply_to i (replies.Started t g) = i == t
is_reply_to i _ = false

-- it tells of the thread's transaction
abbrev pub is_told_by : (thread : ℕ) → Reply → Bool
is_told_by i (replies.Thread t) = i == t
is_told_by i _ = false

-- of each thread one move at most was taken
abbrev pub AreMovedOnce : List Reply → Type 0
AreMovedOnce [] = Unit {0}
AreMovedOnce (reply ∷ told) = ((t : ℕ) → is_reply_to t reply ≡ true → list_any (is_reply_to t) told ≡ false) × AreMovedOnce told
